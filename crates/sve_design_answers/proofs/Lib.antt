mod Fronts
mod Paid
