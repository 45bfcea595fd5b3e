mod AtMost
mod Sending
mod Answer
mod RowPart
mod Dealt
mod SlotMade
pub mod Played
pub mod Accepted
pub mod Unique
