pub mod Outside
pub mod inside
