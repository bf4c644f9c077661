pub mod ExitCodes
pub mod Options
pub mod Read
pub mod Requests
