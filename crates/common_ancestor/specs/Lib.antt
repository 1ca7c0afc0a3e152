pub mod Turns
pub mod Meets
pub mod Waits
pub mod Lowest
pub mod Jumps
