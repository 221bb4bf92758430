pub mod FramesText
pub mod LineTaken
pub mod FrameLines
