pub mod Counted
pub mod Named
pub mod Shaped
pub mod WholeRuns
