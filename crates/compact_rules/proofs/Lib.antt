pub mod Lists
pub mod Cutting
pub mod Behind
pub mod Wholes
