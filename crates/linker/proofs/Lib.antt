pub mod Assembling
pub mod Listing
