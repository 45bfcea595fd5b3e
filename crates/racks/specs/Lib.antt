pub mod Calls
pub mod OneCall
pub mod Rack
pub mod Replies
pub mod Examples
