pub mod Callers
mod Calming
mod Means
mod Pending
mod Steps
mod Worked
