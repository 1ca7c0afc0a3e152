pub mod Kept
pub mod Pending
pub mod Sections
pub mod Bases
pub mod Build
pub mod Extents
pub mod Places
