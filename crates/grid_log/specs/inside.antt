pub mod Telling
pub mod Moving
