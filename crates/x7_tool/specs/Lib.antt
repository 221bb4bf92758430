pub mod Calls
pub mod PowerLoss
pub mod Promise
pub mod Runs
