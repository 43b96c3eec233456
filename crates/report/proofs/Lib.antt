pub mod Splitting
pub mod Searching
pub mod Laws
