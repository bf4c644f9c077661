pub mod Standing
pub mod Unguarding
pub mod Folding
