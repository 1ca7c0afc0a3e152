pub mod Walking
pub mod Climbing
pub mod Naming
pub mod Placing
pub mod Tops
pub mod Marking
pub mod Cloned
