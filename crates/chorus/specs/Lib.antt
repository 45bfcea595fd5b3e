pub mod Air
pub mod Different
pub mod Demand
pub mod Examples
