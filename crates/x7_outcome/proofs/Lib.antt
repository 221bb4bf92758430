pub mod EndingLemmas
pub mod FeedLemmas
pub mod FlashLemmas
pub mod FullStreamLemmas
pub mod ReadyLemmas
pub mod StopLemmas
pub mod StreamLemmas
pub mod TextLemmas
