pub mod Pieces
pub mod Moments
pub mod Records
pub mod inside
