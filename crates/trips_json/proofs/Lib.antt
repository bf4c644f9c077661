pub mod Turns
pub mod Reading
pub mod Telling
pub mod StandardFacts
