pub mod Chains
pub mod Quoting
