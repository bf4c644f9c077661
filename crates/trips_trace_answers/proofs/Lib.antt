pub mod Pieces
pub mod Opened
pub mod JudgedFiles
