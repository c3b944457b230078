pub mod Unmade
pub mod Kept
pub mod Objects
pub mod Holders
