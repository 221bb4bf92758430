pub mod PlayLemmas
pub mod PlayerLemmas
