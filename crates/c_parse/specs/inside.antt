pub mod Lists
pub mod Operands
pub mod Parses
pub mod Reads
