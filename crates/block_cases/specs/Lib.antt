pub mod Nodes
pub mod CaseRule
pub mod Choosers
pub mod Cases
pub mod Blocks
pub mod Orders
pub mod Good
pub mod inside
