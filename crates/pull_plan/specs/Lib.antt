pub mod Pulling
pub mod Taken
