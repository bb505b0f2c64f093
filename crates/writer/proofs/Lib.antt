pub mod Measured
pub mod Laid
pub mod Fits
pub mod Judged
pub mod GivenBack
pub mod SameBytes
