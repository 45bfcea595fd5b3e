pub mod Sums
pub mod Tally
pub mod Digits
pub mod Parts
pub mod Apart
pub mod Below
pub mod Bounds
pub mod Deeper
