pub mod Reading
pub mod Spelled
pub mod RoundTrip
pub mod Copied
