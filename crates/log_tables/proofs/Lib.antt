pub mod Loads
pub mod Unlawful
