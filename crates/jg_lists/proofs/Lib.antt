pub mod Acts
mod Closed
pub mod Found
pub mod Lists
pub mod Marks
pub mod Named
pub mod Numbers
pub mod Oldest
pub mod Places
pub mod Searched
pub mod Seats
pub mod Tables
pub mod Taken
pub mod Values
pub mod Visited
