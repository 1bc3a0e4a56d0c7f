mod Lists
mod Regions
mod Values
