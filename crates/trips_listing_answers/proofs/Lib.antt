pub mod Bare
pub mod Written
pub mod Steps
pub mod Trapped
