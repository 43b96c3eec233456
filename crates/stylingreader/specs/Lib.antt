pub mod Parts
pub mod Takings
pub mod Reading
