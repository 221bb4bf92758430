mod BlockLemmas
pub mod CheckLemmas
pub mod CheckerLemmas
mod PolynomialLemmas
mod ShiftLemmas
mod TableLemmas
