pub mod Sorting
pub mod SortingLaws
pub mod Inner
