pub mod Moves
pub mod Placings
