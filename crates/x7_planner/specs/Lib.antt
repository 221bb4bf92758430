pub mod Writer
pub mod FullStream
pub mod ReadStream
pub mod Fault
pub mod ControlWords
pub mod PartialStream
pub mod Content
pub mod FullStreamPieces
