pub mod Flushing
pub mod Places
