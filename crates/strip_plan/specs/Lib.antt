pub mod LentRows
pub mod Stripping
