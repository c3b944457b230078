pub mod Making
pub mod Turning
pub mod Meant
