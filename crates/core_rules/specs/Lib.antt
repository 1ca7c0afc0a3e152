pub mod Cores
pub mod Joint
pub mod Taking
