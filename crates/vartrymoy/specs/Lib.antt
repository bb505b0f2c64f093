pub mod Exported
pub mod Filled
pub mod Written
pub mod Answered
