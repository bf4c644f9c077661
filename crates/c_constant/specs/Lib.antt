pub mod Kinds
pub mod Operation
pub mod Causes
pub mod Constant
pub mod Need
pub mod inside
