mod BootTextLemmas
mod DebugLemmas
mod FlashLemmas
pub mod GenerateLemmas
mod PlayLemmas
mod ReadyLemmas
mod StopLemmas
mod SvfLemmas
mod UpdateLemmas
