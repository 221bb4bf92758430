pub mod BackLemmas
mod GoesLemmas
mod LawLemmas
mod LineLemmas
mod LongLemmas
mod OutcomeLemmas
mod PlaceLemmas
mod ReadLemmas
mod McsLinesLemmas
mod RoundLemmas
mod RowLemmas
mod RowsLemmas
pub mod SizeLemmas
mod BlockLemmas
