pub mod Judging
pub mod Ready
