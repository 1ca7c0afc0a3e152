pub mod Idle
pub mod Replaying
pub mod Stopping
pub mod Lending
pub mod Atomic
