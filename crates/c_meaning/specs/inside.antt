pub mod Ahead
pub mod Cells
pub mod Direct
pub mod Follow
pub mod Given
pub mod Labels
pub mod View
