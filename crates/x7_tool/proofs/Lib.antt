mod AnswerLemmas
mod FlashLemmas
mod FoundLemmas
mod PromiseLemmas
mod RunLemmas
mod StopLemmas
