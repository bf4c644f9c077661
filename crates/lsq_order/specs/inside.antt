pub mod Masks
pub mod Reached
pub mod Taking
pub mod Wrong
