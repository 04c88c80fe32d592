pub mod Recent
pub mod Kept
