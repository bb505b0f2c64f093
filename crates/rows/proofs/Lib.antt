mod Counting
pub mod Marks
