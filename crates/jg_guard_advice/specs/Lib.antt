pub mod Logged
pub mod Operands
