pub mod Bare
pub mod Files
pub mod inside
