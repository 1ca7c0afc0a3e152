pub mod Samples
pub mod Others
pub mod Drawn
pub mod Grown
