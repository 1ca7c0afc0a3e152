pub mod Deciding
pub mod Lines
pub mod Worlds
pub mod Renamings
pub mod Marks
pub mod Parsing
pub mod OneSpelling
pub mod PutIds
