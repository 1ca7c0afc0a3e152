pub mod Reading
pub mod Defaults
pub mod Numbers
pub mod Exactly
