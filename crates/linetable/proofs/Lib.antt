pub mod Walking
pub mod Filling
