pub mod History
pub mod Laws
pub mod Rows
pub mod Seen
pub mod Standing
