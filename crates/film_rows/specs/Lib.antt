pub mod Films
pub mod Tells
