pub mod Figures
pub mod Spots
pub mod Leaves
pub mod Walks
pub mod Valid
pub mod Others
pub mod Lists
pub mod Rows
