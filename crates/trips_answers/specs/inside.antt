pub mod Checked
pub mod Laws
pub mod Settings
pub mod Table
pub mod Made
