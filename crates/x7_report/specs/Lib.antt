pub mod Frames
pub mod Reads
pub mod Reports
pub mod State
