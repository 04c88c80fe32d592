pub mod Emitted
pub mod Wrote
