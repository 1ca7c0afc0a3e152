pub mod Sorting
pub mod Naming
pub mod Standing
pub mod FromLog
pub mod ToDisk
pub mod Both
