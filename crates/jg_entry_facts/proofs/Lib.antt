pub mod Unheld
pub mod InOrder
pub mod Made
pub mod Passed
