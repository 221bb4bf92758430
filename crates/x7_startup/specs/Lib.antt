pub mod Options
pub mod Phases
pub mod Lines
pub mod Startup
pub mod Ticks
pub mod Watchdog
