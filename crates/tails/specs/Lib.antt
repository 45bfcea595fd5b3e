pub mod Sum
pub mod Tails
