pub mod Filling
pub mod Counts
pub mod Loops
pub mod Signboxes
pub mod Prefixes
pub mod Signs
pub mod Texts
pub mod Limits
