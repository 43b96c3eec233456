pub mod Moves
pub mod MovingLaws
pub mod Inner
