pub mod Down
pub mod Members
pub mod Places
