pub mod Bench
pub mod Signs
pub mod Examples
