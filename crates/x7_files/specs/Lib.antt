pub mod Agreement
pub mod Refusal
pub mod FileCalls
pub mod File
pub mod Inputs
pub mod Flash
pub mod Sink
