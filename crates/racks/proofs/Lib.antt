pub mod Changed
pub mod OwnSlot
pub mod Stages
pub mod Demand
pub mod OneCall
pub mod Other
pub mod Replies
pub mod Examples
