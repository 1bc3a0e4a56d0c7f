pub mod Origins
pub mod Segments
pub mod Expanded
