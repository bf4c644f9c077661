pub mod ActsAlike
pub mod BareBlocks
pub mod WholeRuns
pub mod WordsKept
