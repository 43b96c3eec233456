pub mod Signs
pub mod Inner
