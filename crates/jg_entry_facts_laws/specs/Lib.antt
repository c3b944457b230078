pub mod Entries
pub mod Alike
pub mod Laws
pub mod Tickets
