pub mod Slots
pub mod DrawnEntries
