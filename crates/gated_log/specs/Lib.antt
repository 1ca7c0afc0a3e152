pub mod Log
pub mod Held
pub mod Holding
pub mod Scan
pub mod Load
pub mod Commit
pub mod Growing
pub mod Turns
