pub mod Lines
pub mod Meeting
pub mod Walking
pub mod Seeking
