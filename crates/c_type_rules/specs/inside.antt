pub mod Expressions
pub mod KeptStatements
pub mod Needs
pub mod Objects
pub mod WellFormed
