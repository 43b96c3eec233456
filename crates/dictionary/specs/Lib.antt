pub mod Narrowing
pub mod NarrowingLaws
pub mod Search
pub mod SearchLaws
pub mod Inner
pub mod Taking
