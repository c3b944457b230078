pub mod Callers
mod Changed
mod Counting
mod Ended
mod Listed
mod Lookups
mod Means
mod Numbers
mod Steps
