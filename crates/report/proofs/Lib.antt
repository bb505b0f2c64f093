pub mod Listing
pub mod Digits
pub mod Printed
