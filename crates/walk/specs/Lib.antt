pub mod Fold
pub mod Put
