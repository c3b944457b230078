mod Threads
mod Acts
mod Locals
mod Globals
mod Heap
mod Buffers
mod Monitors
mod Alike
pub mod Judged
pub mod Idle
mod Steps
mod Own
mod Going
mod Told
pub mod Histories
mod Tickets
mod Worked
