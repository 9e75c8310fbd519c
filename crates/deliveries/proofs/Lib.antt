pub mod HandedOut
pub mod ListedLaws
