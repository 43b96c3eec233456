pub mod Decimal
pub mod TextWrites
