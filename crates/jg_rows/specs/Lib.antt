pub mod ByName
pub mod Columns
pub mod Table
