pub mod Logged
pub mod Measured
pub mod Told
