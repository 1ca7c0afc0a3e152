pub mod Rebasing
pub mod Rebases
