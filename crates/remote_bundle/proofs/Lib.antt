pub mod Placing
pub mod Mastering
pub mod Tabling
pub mod Fitting
pub mod Sound
pub mod Indexing
