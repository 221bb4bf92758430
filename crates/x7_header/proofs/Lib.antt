pub mod CutLemmas
pub mod HeaderLemmas
mod StepLemmas
mod WaitLemmas
