pub mod BeginningLemmas
mod FormLemmas
mod HeadLemmas
mod PartLemmas
pub mod ReadLemmas
pub mod ResultLemmas
pub mod AskedLemmas
