mod EventLemmas
mod GiveLemmas
pub mod LawLemmas
mod PlayLemmas
mod PortLemmas
pub mod QueueLemmas
mod ShiftLemmas
mod ShortLemmas
mod StandingLemmas
mod TookLemmas
