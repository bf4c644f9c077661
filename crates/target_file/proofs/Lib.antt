pub mod Scans
pub mod Turns
pub mod Lines
pub mod Texts
pub mod Laws
