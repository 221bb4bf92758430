pub mod AppendsLemmas
mod BlockLemmas
mod SixteenLemmas
mod ByteLemmas
pub mod CaseLemmas
mod DecodeLemmas
pub mod DigitLemmas
pub mod PrefixLemmas
pub mod LineLemmas
pub mod LineReaderLemmas
pub mod PieceLemmas
pub mod ReadRowLemmas
pub mod RowLemmas
pub mod SplitLemmas
pub mod OpenLineLemmas
pub mod ValueLemmas
pub mod WholeLineLemmas
pub mod WordLemmas
pub mod FewLemmas
pub mod WindowLemmas
