pub mod DigitRows
pub mod StringBytes
