pub mod AtOnceLemmas
pub mod OnSheetLemmas
pub mod SheetLemmas
