pub mod AlikeLemmas
mod BeginsLemmas
mod BodyLemmas
pub mod BootLemmas
pub mod CheckedLemmas
pub mod ClockLemmas
mod DataLemmas
mod DeviceLemmas
pub mod FallbackLemmas
pub mod FeedLemmas
pub mod FeedingLemmas
mod FiringLemmas
pub mod FirstStopLemmas
pub mod FrameLemmas
mod GapLemmas
pub mod MaskLemmas
mod PassLemmas
mod PastLemmas
pub mod PassesLemmas
mod PhaseLemmas
mod PlainLemmas
pub mod ReadsLemmas
pub mod RestLemmas
pub mod SameLemmas
mod SequenceLemmas
pub mod ShownLemmas
mod SinceLemmas
pub mod StartupLemmas
pub mod StateLemmas
mod TimeoutLemmas
pub mod TurnLemmas
mod UndoLemmas
pub mod UntilLemmas
pub mod UntilReadLemmas
mod WrapLemmas
mod WriteLemmas
