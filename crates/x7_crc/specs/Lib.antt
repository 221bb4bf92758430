pub mod Check
pub mod Checker
pub mod Polynomial
pub mod RunningCheck
pub mod ShiftRegister
pub mod Table
