mod EveryScriptLemmas
mod FeedLemmas
mod LeastLemmas
mod PositionLemmas
mod ScriptLemmas
mod ShowingLemmas
mod UniqueLemmas
mod JournalLemmas
