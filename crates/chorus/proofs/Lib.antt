pub mod Air
pub mod Different
pub mod Apart
pub mod Twins
pub mod Examples
