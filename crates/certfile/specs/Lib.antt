pub mod Outcome
pub mod File
pub mod Layout
pub mod Tables
pub mod Contents
