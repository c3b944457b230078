pub mod Breaches
pub mod Causes
pub mod Conditions
pub mod Laws
pub mod Turns
pub mod Referred
