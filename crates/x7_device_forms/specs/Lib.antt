pub mod Debug
pub mod Summary
pub mod Svf
