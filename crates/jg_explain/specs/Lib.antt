pub mod Explained
pub mod Followed
pub mod Left
pub mod Texts
pub mod Watched
