pub mod Part
pub mod Added
pub mod Map
pub mod Found
pub mod Adding
pub mod Build
