pub mod Takes
pub mod Separated
