pub mod TextLines
pub mod Fronts
pub mod Pieces
mod Unread
