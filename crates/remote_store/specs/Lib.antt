pub mod Told
pub mod Fit
pub mod Names
pub mod Remote
pub mod Loaded
