pub mod Arrivals
pub mod Choosing
pub mod Costs
pub mod Cycles
pub mod Laws
pub mod Stations
