pub mod Words
pub mod Blocks
pub mod Sections
pub mod Word
