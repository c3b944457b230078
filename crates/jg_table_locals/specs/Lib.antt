pub mod History
pub mod Room
pub mod Rows
pub mod Seen
pub mod Standing
pub mod Laws
