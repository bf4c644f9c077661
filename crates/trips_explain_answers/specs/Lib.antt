pub mod Told
pub mod Further
pub mod FileTold
pub mod Files
pub mod Evaluated
pub mod Explained
pub mod inside
