pub mod Written
pub mod File
pub mod Room
pub mod RoundTrip
