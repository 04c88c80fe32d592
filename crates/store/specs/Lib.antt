pub mod Pairs
pub mod Says
pub mod Runs
