pub mod Places
pub mod Parts
pub mod Rising
pub mod Tails
pub mod Cuts
pub mod Falls
pub mod Ends
pub mod Edges
