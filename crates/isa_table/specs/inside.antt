pub mod Guesses
pub mod Codes
pub mod Mnemonics
pub mod Operations
