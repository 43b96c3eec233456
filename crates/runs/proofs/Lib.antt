pub mod Asking
pub mod Demand3
pub mod SortedRuns
pub mod Running
pub mod Whole
