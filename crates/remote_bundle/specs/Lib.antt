pub mod Names
pub mod Segments
pub mod Held
pub mod Remote
