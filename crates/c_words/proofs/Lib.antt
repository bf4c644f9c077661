pub mod Cuts
pub mod NameFacts
pub mod StayFacts
pub mod KeepFacts
pub mod WordedFacts
pub mod StandardFacts
