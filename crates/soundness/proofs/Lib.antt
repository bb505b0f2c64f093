pub mod Conditions
pub mod Sums
pub mod Steps
pub mod Never
pub mod Remainder
pub mod Demand3
