mod Told
mod Answered
mod Ways
pub mod CardCalls
pub mod ReadBack
pub mod Unique
mod Lengths
mod Numbers
mod WalkTold
pub mod UniqueWalked
pub mod UniqueAnswers
pub mod ErrorShown
