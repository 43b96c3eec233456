pub mod Bytes
pub mod Tokens
