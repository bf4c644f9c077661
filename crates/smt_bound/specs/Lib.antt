pub mod Costs
pub mod inside
