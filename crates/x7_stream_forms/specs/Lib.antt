pub mod Between
pub mod FullText
pub mod Image
pub mod Plan
