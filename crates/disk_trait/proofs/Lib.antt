pub mod Loss
pub mod Sound
pub mod Moments
pub mod Writes
pub mod Telling
