pub mod Laws
pub mod Sortings
