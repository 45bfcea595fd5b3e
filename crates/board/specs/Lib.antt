pub mod Calls
pub mod Walked
pub mod Shared
pub mod Steps
pub mod Version
pub mod Answers
