pub mod Marks
pub mod Record
pub mod Hear
pub mod Ask
pub mod Shared
pub mod Steps
pub mod Examples
