pub mod Fetches
