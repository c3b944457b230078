pub mod Histories
pub mod Laws
pub mod Proper
pub mod Touching
