pub mod Lines
pub mod Retold
pub mod Laws
