pub mod Statistics
pub mod Predictions
pub mod Counters
pub mod Flights
pub mod Cycles
pub mod Runs
pub mod inside
