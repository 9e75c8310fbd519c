pub mod QueryLaws
pub mod ReadLaws
pub mod RefusalLaws
pub mod ReplyLaws
pub mod RunLaws
pub mod SetUpLaws
