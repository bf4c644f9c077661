pub mod Positions
pub mod Shapes
pub mod Arcs
pub mod Boxes
pub mod Page
pub mod Drawing
pub mod inside
