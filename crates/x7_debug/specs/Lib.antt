pub mod Journal
pub mod Moving
pub mod Position
pub mod Script
pub mod Session
pub mod SessionFields
pub mod Showing
