pub mod Lists
pub mod Name
pub mod Id
pub mod Span
