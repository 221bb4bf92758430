pub mod Appends
pub mod Digits
pub mod DigitValue
pub mod EitherCase
pub mod LineReader
pub mod Lines
pub mod Reads
pub mod Row
