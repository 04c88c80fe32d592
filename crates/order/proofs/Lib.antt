pub mod Counts
pub mod Laws
pub mod Least
pub mod Placing
