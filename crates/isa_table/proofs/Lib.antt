pub mod Firsts
pub mod ByNumbers
pub mod ByMnemonic
pub mod Guesses
