pub mod Emitted
pub mod Joint
pub mod Layouts
pub mod Linking
pub mod Standings
