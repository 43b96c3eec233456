pub mod Layouts
pub mod LayoutLaws
pub mod Dictionaries
