pub mod Report
pub mod Statistics
pub mod Events
pub mod Counted
pub mod Runs
pub mod Saved
pub mod inside
