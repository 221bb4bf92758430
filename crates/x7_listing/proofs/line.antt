pub mod LineTextLemmas
pub mod TablesLemmas
