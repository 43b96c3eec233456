pub mod Spelling
pub mod Placing
pub mod Prefixes
