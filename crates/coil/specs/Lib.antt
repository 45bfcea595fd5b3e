pub mod Track
pub mod Coder
pub mod Decoder
pub mod Decoded
pub mod Read
pub mod Overlay
pub mod Examples
pub mod Steps
