pub mod NotedRuns
pub mod SeedRuns
pub mod Flushes
