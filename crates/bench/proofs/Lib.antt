pub mod Building
pub mod Leveling
pub mod Drawn
