pub mod Halves
pub mod Grouping
pub mod Tightness
pub mod Limits
pub mod Measuring
pub mod Laws
