pub mod Declarations
pub mod Functions
pub mod LeftOut
pub mod Programs
pub mod Runs
pub mod Seen
pub mod Statements
pub mod Units
