mod CardTurned
mod RowTurned
mod SlotsAlike
pub mod Bench
pub mod Printed
pub mod Twins
mod Answers
pub mod Signs
mod OverUids
pub mod ThreePrinted
pub mod ThreeDrawn
