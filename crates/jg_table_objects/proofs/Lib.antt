pub mod Callers
mod Steps
mod Told
