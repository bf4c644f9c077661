pub mod FlagFacts
pub mod RowFacts
