mod DigitLemmas
mod LineLemmas
mod GoodLemmas
mod OrderLemmas
mod EveryTextLemmas
mod TextLemmas
mod OneFaultLemmas
pub mod OneLemmas
mod BackLemmas
mod FrameLinesLemmas
mod WantLemmas
