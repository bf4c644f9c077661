pub mod Listings
pub mod Traps
