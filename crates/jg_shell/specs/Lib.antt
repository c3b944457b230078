pub mod Busy
pub mod Difference
pub mod Finish
pub mod Played
pub mod Receipts
pub mod Settled
pub mod Stopping
pub mod Work
