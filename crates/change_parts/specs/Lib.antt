pub mod Flat
pub mod Moves
pub mod Plans
pub mod Asked
pub mod Rows
pub mod Facts
pub mod Sections
