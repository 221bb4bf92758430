mod ColumnLemmas
pub mod WidthLemmas
pub mod RowLemmas
mod TableLemmas
mod FieldLemmas
pub mod PartLemmas
pub mod SlotLemmas
mod FileLemmas
mod BlankLemmas
mod RangeLemmas
mod OrderLemmas
mod SortLemmas
mod FirstLemmas
mod LoopLemmas
mod PassLemmas
pub mod FileRowLemmas
