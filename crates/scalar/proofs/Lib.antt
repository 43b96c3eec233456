pub mod Characters
pub mod Numbers
