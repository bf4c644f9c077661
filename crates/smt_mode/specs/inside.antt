pub mod Begun
pub mod Histories
pub mod Issues
pub mod Marked
pub mod Rooms
