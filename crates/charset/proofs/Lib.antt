pub mod Coding
pub mod Units
pub mod FixedByte
pub mod Keys
pub mod Sets
pub mod Numbers
pub mod Texts
