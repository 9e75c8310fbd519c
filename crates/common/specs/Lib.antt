pub mod Bytes
pub mod Lists
pub mod Streams
pub mod Tests
