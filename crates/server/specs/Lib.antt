pub mod Clients
pub mod Messages
pub mod Serving
pub mod Parts
pub mod Histories
pub mod Reached
