pub mod Scenes
pub mod Named
pub mod Tells
pub mod Chosen
pub mod Views
