pub mod Acts
pub mod ByMaker
pub mod ByNumber
pub mod ByPlace
pub mod ByThread
pub mod Lending
pub mod Marks
pub mod Searches
