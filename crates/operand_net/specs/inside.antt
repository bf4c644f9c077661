pub mod Holds
pub mod IsStands
pub mod Marks
pub mod Places
pub mod Rows
pub mod Tick
