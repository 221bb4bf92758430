mod CommandLemmas
mod NameLemmas
pub mod NamedLemmas
mod StatusLemmas
