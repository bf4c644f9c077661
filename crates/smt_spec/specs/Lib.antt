pub mod Programs
pub mod Turns
pub mod Parts
pub mod Cycles
pub mod inside
