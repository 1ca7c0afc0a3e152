pub mod PipeWords
pub mod Mirrors
pub mod Called
pub mod Locked
