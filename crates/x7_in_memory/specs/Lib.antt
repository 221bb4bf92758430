pub mod Memory
pub mod Tearing
pub mod NamedBytes
pub mod History
