pub mod AsBox
pub mod Beside
pub mod Followed
mod Wanting
mod Telling
mod Coming
mod Client
mod NotedChanges
mod Coded
mod Noting
mod Numbered
mod Opening
mod Joining
mod Deciding
mod Storing
mod Settling
mod Together
mod Linking
