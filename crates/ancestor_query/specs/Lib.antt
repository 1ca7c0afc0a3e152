pub mod Graph
pub mod Visits
pub mod Jumps
pub mod Counts
pub mod Parts
pub mod Window
