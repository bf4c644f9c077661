pub mod Fours
pub mod Machines
pub mod Starts
pub mod inside
