pub mod Process
pub mod Demand3
