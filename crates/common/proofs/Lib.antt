pub mod ByteLaws
pub mod ListLaws
pub mod MaskLaws
pub mod StoredLaws
pub mod StreamLaws
pub mod TestLaws
pub mod WordLaws
