pub mod Track
pub mod Coder
pub mod Decoder
pub mod Decoded
pub mod Examples
pub mod Steps
