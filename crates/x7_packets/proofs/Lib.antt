mod BlockLemmas
pub mod ByHandLemmas
mod CutLemmas
mod EndLemmas
mod FlashSlotLemmas
mod FitLemmas
pub mod GapLemmas
pub mod GrowthLemmas
pub mod HistoryLemmas
pub mod MovedLemmas
mod NopLemmas
pub mod PacketLemmas
mod PlaceLemmas
mod SearchLemmas
pub mod SyncLemmas
mod TakeLemmas
pub mod UniqueLemmas
pub mod SeamLemmas
pub mod AppendedLemmas
pub mod EndedLemmas
pub mod OnceLemmas
mod AtOnceLemmas
pub mod StreamLemmas
