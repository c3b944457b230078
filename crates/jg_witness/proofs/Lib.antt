pub mod Alive
pub mod Past
pub mod Counted
pub mod Meant
pub mod Returning
pub mod Standing
pub mod Leases
pub mod Apart
