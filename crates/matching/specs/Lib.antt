pub mod Meets
pub mod MeetsLaws
pub mod Inner
pub mod WordsLaws
