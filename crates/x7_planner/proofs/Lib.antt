mod AddressLemmas
mod SlotLemmas
mod FullStreamPiecesLemmas
mod ContentLemmas
mod GroupLemmas
pub mod FewLemmas
pub mod BurstLemmas
mod WithinLemmas
