pub mod Turns
pub mod Walks
