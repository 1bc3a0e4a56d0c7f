mod Rows
mod Gathered
