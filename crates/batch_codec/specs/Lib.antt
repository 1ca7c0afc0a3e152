pub mod Payload
pub mod Grammar
pub mod Reading
pub mod Codes
pub mod Parts
pub mod Lent
pub mod Building
pub mod Examples
