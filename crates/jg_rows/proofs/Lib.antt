pub mod ByName
pub mod Rows
