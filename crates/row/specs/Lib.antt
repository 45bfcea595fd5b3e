pub mod Row
pub mod Play
pub mod Steps
