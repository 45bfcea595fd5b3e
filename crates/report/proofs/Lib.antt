pub mod Lengths
mod Printed
mod BenchWays
pub mod Start
pub mod Unique
