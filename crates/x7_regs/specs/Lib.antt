pub mod BootStatus
pub mod Command
pub mod Control
pub mod Named
pub mod Register
pub mod StartupOptions
pub mod Status
