pub mod Lines
pub mod Record
pub mod DataRecords
pub mod Flash
pub mod Text
pub mod Image
pub mod Readings
pub mod McsLines
