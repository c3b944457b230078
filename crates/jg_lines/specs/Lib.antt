pub mod Seen
pub mod TextLines
pub mod Devices
