pub mod Held
pub mod Printed
pub mod Shows
