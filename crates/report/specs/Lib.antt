pub mod Output
pub mod Bench
