pub mod Index
pub mod Merged
