pub mod Ends
pub mod Told
pub mod Costs
pub mod Begins
pub mod Listed
