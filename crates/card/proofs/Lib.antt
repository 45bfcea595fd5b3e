pub mod Changes
pub mod Accepted
pub mod Heard
