pub mod Request
pub mod Verdict
pub mod Frame
