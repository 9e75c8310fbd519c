pub mod Given
pub mod TableLaws
