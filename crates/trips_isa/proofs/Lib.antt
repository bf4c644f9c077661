pub mod StandardFacts
pub mod MarkFacts
pub mod Sizes
pub mod WordLemmas
pub mod OperandFacts
pub mod ProducerLemmas
pub mod CauseFacts
pub mod Rows
