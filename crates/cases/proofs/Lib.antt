pub mod Right
pub mod Stepped
pub mod Attained
pub mod Filed
