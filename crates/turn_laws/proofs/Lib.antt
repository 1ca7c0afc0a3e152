pub mod Turning
pub mod Besides
