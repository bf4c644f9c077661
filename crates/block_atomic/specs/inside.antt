pub mod Passes
pub mod Applied
pub mod Bounds
pub mod MarkSlots
pub mod Slots
pub mod Held
