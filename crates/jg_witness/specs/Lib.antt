pub mod Events
pub mod Laws
pub mod Standing
pub mod Words
