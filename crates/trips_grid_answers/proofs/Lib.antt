pub mod Flushes
pub mod GridRuns
pub mod Spending
pub mod SavedRuns
