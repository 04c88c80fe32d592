pub mod Chain
pub mod Kept
