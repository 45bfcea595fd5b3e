mod LineWays
mod WrongLines
mod Begun
mod LeftToRead
pub mod Reading
pub mod UidsBegin
pub mod Start
pub mod Examples
