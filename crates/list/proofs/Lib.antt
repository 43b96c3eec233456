pub mod Loops
pub mod Bytes
pub mod Sets
pub mod Marking
