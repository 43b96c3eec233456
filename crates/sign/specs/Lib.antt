pub mod Reading
pub mod RefusalLaws
pub mod OffsetLaws
pub mod Transcription
pub mod Inner
