pub mod Reading
pub mod Transcription
pub mod Writing
pub mod RefusalLaws
pub mod Laws
pub mod Inner
