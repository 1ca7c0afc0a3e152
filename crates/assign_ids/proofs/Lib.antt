pub mod Placings
pub mod Reached
pub mod NumberLemmas
pub mod Orders
pub mod Frames
pub mod ByNames
