pub mod Lacks
pub mod Events
pub mod inside
