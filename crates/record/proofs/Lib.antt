mod Fields
mod Reading
mod Putting
pub mod RoundTrip
pub mod Numbers
pub mod Written
pub mod Unique
