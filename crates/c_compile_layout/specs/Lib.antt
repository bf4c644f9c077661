pub mod Emitted
pub mod inside
