mod BootedLemmas
pub mod CheckedLemmas
pub mod BootCourseLemmas
mod EveryBootLemmas
mod ImageLemmas
pub mod LeastLemmas
pub mod OneBootLemmas
pub mod OverLemmas
mod PageLemmas
pub mod ReadLemmas
pub mod StartLemmas
pub mod TookLemmas
mod FlashAttemptLemmas
mod BlockLemmas
