pub mod Request
pub mod Reading
pub mod Shown
pub mod Exchange
pub mod Steps
