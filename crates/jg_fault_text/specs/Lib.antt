pub mod Lines
pub mod Setups
