mod Given
pub mod Lost
