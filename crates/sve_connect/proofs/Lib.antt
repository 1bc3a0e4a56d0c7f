mod Agreement
mod Rows
