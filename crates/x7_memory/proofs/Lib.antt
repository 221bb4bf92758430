pub mod FrameLemmas
mod FrameWordLemmas
mod FlatLemmas
mod MemoryLemmas
pub mod ZeroLemmas
pub mod PlanLemmas
pub mod MapLemmas
pub mod DraftLemmas
mod RowLemmas
