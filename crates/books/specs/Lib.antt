pub mod Book
pub mod Forms
pub mod Sorting
pub mod Fills
