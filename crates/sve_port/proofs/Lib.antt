mod Rows
mod Dimensions
