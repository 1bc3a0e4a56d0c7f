pub mod MayCome
