pub mod Conditions
pub mod Engines
pub mod Lacks
pub mod Nexts
pub mod Traps
pub mod inside
