pub mod Breaches
pub mod Moments
pub mod Sentences
pub mod Words
