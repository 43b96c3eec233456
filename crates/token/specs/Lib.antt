pub mod Refusal
pub mod Result
pub mod Token
pub mod Symbol
pub mod Ends
pub mod Wrote
pub mod Padded
pub mod Digits
