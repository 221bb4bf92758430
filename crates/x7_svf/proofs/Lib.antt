mod BitLemmas
mod ByteLemmas
mod DigitLemmas
mod FieldLemmas
mod HexLemmas
mod NextLemmas
mod NumberLemmas
mod OutcomeLemmas
mod TokenLemmas
mod ReadingLemmas
mod ScannerLemmas
pub mod SourceLemmas
mod SpanLemmas
mod SvfLemmas
mod ValueLemmas
mod WordsLemmas
