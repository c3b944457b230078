pub mod Passed
pub mod Denied
