pub mod Told
pub mod Lines
pub mod Logged
pub mod Ends
pub mod Explained
pub mod Steps
pub mod Laws
