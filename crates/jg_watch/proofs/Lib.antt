pub mod Counting
pub mod Lasting
pub mod Answering
pub mod Suiting
pub mod Explaining
