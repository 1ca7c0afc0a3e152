pub mod Format
pub mod Again
pub mod Worlds
pub mod Histories
pub mod Bundled
pub mod Indexed
pub mod Built
pub mod Refusing
mod Made
