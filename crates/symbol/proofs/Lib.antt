pub mod Codes
pub mod CodeReads
pub mod CodeLaws
pub mod KeyLaws
