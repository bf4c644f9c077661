pub mod Told
pub mod Find
pub mod StandardFacts
