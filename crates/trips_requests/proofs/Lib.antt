pub mod Digits
pub mod VerbLemmas
pub mod Counts
pub mod StandardFacts
pub mod Written
