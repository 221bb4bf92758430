pub mod AsmLinesLemmas
pub mod DigitPairsLemmas
