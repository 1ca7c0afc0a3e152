pub mod Answering
pub mod Reading
pub mod Peer
pub mod Exchange
pub mod Line
pub mod Remote
pub mod Ahead
pub mod Steps
