pub mod Bytes
pub mod Every
pub mod Ors
pub mod Over
pub mod Placed
pub mod Puts
