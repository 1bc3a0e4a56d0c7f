mod Filtered
mod Counts
mod OfWords
mod Adding
