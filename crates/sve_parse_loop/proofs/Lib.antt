mod Starts
mod Ways
