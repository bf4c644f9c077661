pub mod LineFacts
pub mod StandardFacts
