mod Callers
pub mod Meanings
mod Classes
pub mod Judged
pub mod Leases
pub mod Apart
pub mod Brief
pub mod Later
