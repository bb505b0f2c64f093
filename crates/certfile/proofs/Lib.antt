pub mod Placed
pub mod Judged
pub mod Passed
pub mod Contents
pub mod Cut
