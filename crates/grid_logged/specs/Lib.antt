pub mod Runs
pub mod Seeds
pub mod inside
