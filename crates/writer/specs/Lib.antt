pub mod Arrays
pub mod Keys
