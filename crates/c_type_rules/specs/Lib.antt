pub mod Constants
pub mod Definitions
pub mod Statements
pub mod Units
pub mod Judgements
pub mod Order
pub mod FirstFaults
pub mod inside
