pub mod Parts
pub mod UnsignedText
pub mod SignedText
pub mod HexadecimalText
pub mod DigitsText
pub mod FillText
pub mod SizeText
pub mod TableRows
