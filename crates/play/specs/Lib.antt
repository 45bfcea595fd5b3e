pub mod Refusal
pub mod Answer
pub mod Effects
pub mod Fits
pub mod Events
pub mod Life
pub mod Steps
pub mod Examples
