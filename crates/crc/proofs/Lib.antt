pub mod Register
mod Xor
mod Linear
pub mod Entries
pub mod Seal
pub mod Residue
pub mod Examples
