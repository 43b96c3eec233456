pub mod Plain
pub mod Rewriting
pub mod Forms
pub mod Fills
pub mod Sorting
