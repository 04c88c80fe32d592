pub mod Copying
pub mod Trusted
