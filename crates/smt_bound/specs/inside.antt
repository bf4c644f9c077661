pub mod Holding
pub mod FourRule
pub mod LeftOfFirst
