pub mod Told
pub mod Setups
