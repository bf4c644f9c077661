pub mod Tokens
pub mod Typings
pub mod Rows
