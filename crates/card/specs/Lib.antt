pub mod Record
pub mod Inventory
pub mod Mark
pub mod Reply
pub mod Frame
