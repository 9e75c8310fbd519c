pub mod IndexLaws
pub mod PartLaws
pub mod LayoutLaws
pub mod RunLaws
pub mod ShapeLaws
pub mod SlotLaws
