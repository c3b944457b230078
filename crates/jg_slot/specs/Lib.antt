pub mod Held
pub mod LendingSlot
