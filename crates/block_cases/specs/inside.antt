pub mod Good
pub mod Joint
pub mod Orders
pub mod Plain
pub mod Shapes
