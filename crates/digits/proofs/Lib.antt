pub mod Digits
pub mod RoundTrip
pub mod Rows
pub mod Put
pub mod Decimal
pub mod DecimalRoundTrip
pub mod Unique
