pub mod LaneLaws
pub mod ReadLaws
pub mod WriteLaws
