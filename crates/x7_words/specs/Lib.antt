pub mod Word
pub mod Characters
pub mod Count
pub mod Input
pub mod Sink
pub mod Flash
pub mod FlashHistory
