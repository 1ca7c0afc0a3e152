pub mod Placing
pub mod Numbers
pub mod Names
pub mod Progress
