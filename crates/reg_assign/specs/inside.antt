pub mod Keeps
pub mod Live
pub mod Pass
