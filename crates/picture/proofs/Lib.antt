mod Pieces
mod Lengths
mod Adding
mod Moves
pub mod Most
mod OneSlot
mod Slots
mod Printed
mod Ways
pub mod Start
pub mod Unique
