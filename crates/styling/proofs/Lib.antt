pub mod Splits
pub mod RefusalLaws
pub mod Laws
pub mod Offsets
pub mod Judging
pub mod Texts
pub mod Drafting
pub mod Entries
