pub mod Lines
pub mod Reading
pub mod Next
pub mod Steps
pub mod Memory
pub mod Streams
