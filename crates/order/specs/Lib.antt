pub mod Dependency
pub mod Law
