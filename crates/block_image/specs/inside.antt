pub mod HeaderReading
pub mod ImageReading
pub mod Reading
pub mod WordReading
