mod Balance
mod CutSteps
mod Entries
mod Formals
mod Lists
mod PieceNumbers
pub mod PlainTexts
mod Reading
pub mod Spelling
mod Strings
mod Templates
mod Texts
