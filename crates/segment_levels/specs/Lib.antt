pub mod Kept
pub mod Sound
pub mod Whole
pub mod Flats
pub mod Tests
pub mod Endings
pub mod Counts
pub mod Heads
