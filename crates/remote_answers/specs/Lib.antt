pub mod Master
pub mod Lines
pub mod Marks
pub mod Paths
