pub mod Codes
pub mod Mnemonics
pub mod Spots
pub mod inside
