pub mod History
pub mod Keys
pub mod Laws
pub mod Rows
pub mod Seen
pub mod Standing
