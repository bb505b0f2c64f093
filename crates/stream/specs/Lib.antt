pub mod Lost
pub mod Case
pub mod Calls
