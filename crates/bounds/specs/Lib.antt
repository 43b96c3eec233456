pub mod Boxes
pub mod Sizes
pub mod Centre
pub mod BoundsLaws
pub mod Inner
