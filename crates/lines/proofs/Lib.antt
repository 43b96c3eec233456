pub mod Counting
pub mod Ends
pub mod Starts
pub mod Laws
pub mod Counts
