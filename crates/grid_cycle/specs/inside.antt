pub mod Engines
pub mod Follows
pub mod Weathers
