mod FlowLemmas
pub mod RunLemmas
pub mod SlotLemmas
mod FarLemmas
pub mod FrameLemmas
mod ReadLemmas
pub mod StateLemmas
pub mod LawLemmas
mod WordLemmas
pub mod SavedLemmas
