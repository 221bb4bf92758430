pub mod ListerLemmas
pub mod ListerOfRunsLemmas
