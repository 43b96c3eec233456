pub mod Format
pub mod Numeral
pub mod Places
pub mod Numbers
pub mod Located
