pub mod Separated
pub mod Rests
pub mod Turned
pub mod Kept
pub mod StandardFacts
