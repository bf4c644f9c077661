pub mod Clears
pub mod Feeds
pub mod Insertions
pub mod Names
pub mod Nodes
pub mod StandardFacts
pub mod Turns
