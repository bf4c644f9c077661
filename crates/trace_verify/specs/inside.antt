pub mod Recording
pub mod Judging
pub mod Fronting
pub mod Verifying
pub mod Within
