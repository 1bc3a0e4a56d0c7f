mod Room
mod Whole
