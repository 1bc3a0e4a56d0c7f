mod Rows
mod Taken
