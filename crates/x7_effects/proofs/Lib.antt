pub mod Items
pub mod Checking
pub mod Frames
pub mod Streams
mod Groups
mod ItemLemmas
pub mod StreamLemmas
mod CheckingLemmas
pub mod FrameLemmas
pub mod FormLemmas
mod GroupLemmas
mod PlacedLemmas
mod OnceLemmas
pub mod CalmLemmas
pub mod StillLemmas
pub mod GoingLemmas
mod WalkLemmas
mod SectionLemmas
pub mod RestingLemmas
mod PlanLemmas
mod ReadLemmas
pub mod EndLemmas
mod SilentLemmas
mod KeptLemmas
pub mod PartialLemmas
mod ReadbackLemmas
mod FullLemmas
pub mod PlannerLemmas
pub mod LawLemmas
mod InTurnLemmas
