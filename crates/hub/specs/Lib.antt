pub mod Admission
pub mod Answered
pub mod Promises
pub mod Queries
pub mod Reads
pub mod Restarts
