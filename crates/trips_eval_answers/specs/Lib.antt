pub mod Refusals
pub mod Faults
pub mod Stops
pub mod Evaluation
pub mod inside
