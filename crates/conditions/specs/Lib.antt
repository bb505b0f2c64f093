pub mod Ready
pub mod Judging
