pub mod Rising
pub mod Filled
pub mod Runs
pub mod Calls
pub mod Entries
pub mod Distinct
pub mod Told
