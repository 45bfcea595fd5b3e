pub mod Blocks
pub mod Verdicts
pub mod Rules
pub mod Forms
pub mod Keeps
