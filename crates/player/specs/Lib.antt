pub mod Text
pub mod Answer
pub mod Record
pub mod Shown
