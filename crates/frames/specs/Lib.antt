pub mod Flags
pub mod Field
pub mod Frame
