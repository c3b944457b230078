pub mod Tellings
pub mod Asked
pub mod Records
pub mod Alike
pub mod Telling
pub mod Entries
