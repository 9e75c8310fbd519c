pub mod Kinds
pub mod Log
pub mod Answers
pub mod Player
pub mod Promises
pub mod Cutting
