pub mod Digits
pub mod Decimal
pub mod Rows
pub mod Put
