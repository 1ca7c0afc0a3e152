pub mod Over
pub mod Reached
