pub mod Text
pub mod DecimalLaws
