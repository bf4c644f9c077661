pub mod Numerals
pub mod Terms
pub mod Printers
pub mod FieldPrinters
pub mod Fields
pub mod Printing
