pub mod Sizes
pub mod Records
pub mod Steps
pub mod Reading
pub mod Parts
pub mod Cutting
pub mod Keeping
pub mod Reached
