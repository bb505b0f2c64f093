pub mod Chosen
pub mod Most
pub mod Taken
