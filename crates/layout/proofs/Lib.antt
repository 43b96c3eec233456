pub mod Copies
pub mod Laying
pub mod Finding
pub mod Laws
