pub mod LineEndLemmas
pub mod QuickLemmas
pub mod WordsAtLemmas
pub mod WritePairsLemmas
