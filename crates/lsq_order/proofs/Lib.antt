pub mod BitFacts
pub mod MaskFacts
pub mod PassFacts
pub mod ReachFacts
pub mod TakingFacts
pub mod WrongFacts
