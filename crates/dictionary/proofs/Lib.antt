pub mod Asked
pub mod Searches
pub mod Narrowings
