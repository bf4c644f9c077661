pub mod Bits
pub mod Fetches
pub mod Seen
pub mod inside
