pub mod Named
pub mod Runs
pub mod Index
pub mod Filter
pub mod Taking
pub mod Moved
