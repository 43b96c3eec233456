pub mod Spots
pub mod Inner
