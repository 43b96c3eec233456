pub mod Writes
pub mod Answers
pub mod Keys
pub mod Upto
pub mod SignWrites
