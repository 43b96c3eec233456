pub mod Placed
pub mod Inner
