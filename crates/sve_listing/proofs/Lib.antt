mod Cuts
mod Spots
mod Heads
