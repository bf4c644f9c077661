pub mod Seen
pub mod Observed
pub mod Flushed
pub mod Places
pub mod inside
