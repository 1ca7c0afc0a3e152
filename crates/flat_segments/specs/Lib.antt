pub mod Entries
pub mod Maximal
pub mod Placed
pub mod Kept
pub mod Runs
pub mod Views
pub mod Joined
pub mod ByParents
