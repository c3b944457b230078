mod Bytes
pub mod Lists
mod Blocks
pub mod Items
mod Told
mod Steps
pub mod Regions
mod Pointing
mod Sweeping
mod Marking
mod Collecting
mod Calls
mod Laws
mod Shapes
mod Next
mod Objects
mod Letting
mod Counting
mod Whole
mod Decoding
pub mod Callers
