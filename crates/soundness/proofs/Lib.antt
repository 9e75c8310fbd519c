pub mod AbsentLaws
pub mod ScanLaws
pub mod SetUpLaws
pub mod TogetherLaws
pub mod WholeLaws
