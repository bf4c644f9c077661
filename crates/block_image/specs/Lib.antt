pub mod Words
pub mod Headers
pub mod HeaderReading
pub mod Spelling
pub mod Reading
pub mod Faults
pub mod FirstFault
pub mod inside
