pub mod Reading
pub mod ReadingLaws
pub mod RefusalLaws
pub mod Inner
