pub mod Narrowing
pub mod Run
pub mod Form
