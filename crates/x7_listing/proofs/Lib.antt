mod AssemblingLemmas
pub mod BitLemmas
pub mod BoundLemmas
mod EveryAsmLemmas
pub mod PrefixLemmas
mod GapLemmas
mod GuessLemmas
mod LineLemmas
mod ListedBytesLemmas
mod ListingLemmas
pub mod ListingLengthLemmas
mod NameLemmas
pub mod OutcomeLemmas
mod RoundLemmas
mod RunLemmas
mod SessionLemmas
pub mod StreamLemmas
mod TellingLemmas
