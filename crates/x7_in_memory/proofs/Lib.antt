mod MemoryFlashLemmas
mod NamedBytesLemmas
mod TornLemmas
mod HistoryLemmas
