pub mod Events
pub mod Logs
pub mod Cycles
pub mod Runs
pub mod inside
