pub mod Commits
pub mod Runs
pub mod Endings
pub mod Refusals
pub mod inside
