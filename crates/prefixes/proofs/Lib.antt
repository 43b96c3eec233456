pub mod Reading
pub mod Comparing
pub mod Rising
pub mod Signs
