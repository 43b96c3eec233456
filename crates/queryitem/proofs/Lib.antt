pub mod Chains
pub mod Digits
pub mod FswItems
pub mod SwuItems
pub mod Coordinates
pub mod Answers
pub mod Rows
pub mod TextSizes
