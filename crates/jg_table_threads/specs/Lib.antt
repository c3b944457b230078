pub mod Calm
pub mod History
pub mod Rows
pub mod Standing
pub mod Laws
