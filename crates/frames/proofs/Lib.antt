pub mod Bits
pub mod Fields
pub mod Merged
pub mod Ways
pub mod Sound
pub mod Unique
