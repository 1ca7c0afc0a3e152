pub mod Alike
pub mod Collecting
pub mod Filtering
pub mod Gathering
