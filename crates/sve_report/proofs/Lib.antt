pub mod Cuts
pub mod LineParts
pub mod LineTexts
pub mod Linted
pub mod ReadBack
