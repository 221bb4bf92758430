pub mod AskedForm
pub mod Event
pub mod Form
pub mod Known
pub mod Status
pub mod Step
pub mod ReadingStops
pub mod Turn
