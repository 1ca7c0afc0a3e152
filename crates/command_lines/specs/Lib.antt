pub mod Meant
pub mod Parts
pub mod Told
pub mod Sending
