pub mod Moves
pub mod Seeded
pub mod Placings
pub mod inside
