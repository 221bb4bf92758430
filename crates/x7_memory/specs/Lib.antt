pub mod FrameMap
pub mod PartFrames
pub mod Plan
pub mod Places
pub mod Flat
pub mod MemoryFields
pub mod Rows
