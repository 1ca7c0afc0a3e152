pub mod Turned
pub mod Beside
