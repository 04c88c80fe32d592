pub mod Gathers
pub mod Placed
pub mod Settles
