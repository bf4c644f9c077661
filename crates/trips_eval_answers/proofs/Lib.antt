pub mod StandardFacts
