pub mod Added
pub mod Laws
pub mod Lengths
pub mod Many
pub mod Named
