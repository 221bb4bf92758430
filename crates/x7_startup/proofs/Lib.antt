pub mod CallLemmas
pub mod WatchdogLemmas
pub mod PhaseLemmas
mod TickLemmas
