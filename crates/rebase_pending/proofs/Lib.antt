pub mod Rebased
pub mod Moved
pub mod LeftSoFar
pub mod Stepping
pub mod OnWorlds
