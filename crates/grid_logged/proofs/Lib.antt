pub mod Between
pub mod Going
pub mod SeedRuns
pub mod StandardFacts
