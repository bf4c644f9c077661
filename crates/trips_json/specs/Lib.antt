pub mod Strings
pub mod Lines
pub mod Objects
pub mod Words
pub mod inside
