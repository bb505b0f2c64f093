pub mod Bools
pub mod Fold
pub mod Quantified
pub mod Loop
pub mod Putting
