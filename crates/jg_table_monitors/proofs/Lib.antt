pub mod Callers
mod Counting
mod Listed
mod Lookups
mod Splits
mod Steps
