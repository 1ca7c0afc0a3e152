pub mod Merging
pub mod Found
