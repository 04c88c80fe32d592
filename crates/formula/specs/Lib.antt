pub mod Language
pub mod Congruence
pub mod Limits
pub mod Performs
