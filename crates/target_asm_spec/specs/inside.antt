pub mod Blocks
pub mod Chunks
pub mod Instructions
pub mod Places
pub mod Reading
pub mod Registers
pub mod Whole
