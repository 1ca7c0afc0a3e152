pub mod Adding
pub mod Names
pub mod Querying
pub mod Bounds
