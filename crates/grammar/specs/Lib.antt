pub mod Sign
pub mod Size
pub mod Offsets
pub mod SignLaws
pub mod Memory
