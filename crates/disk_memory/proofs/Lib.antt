pub mod Recording
pub mod Viewing
pub mod Covering
