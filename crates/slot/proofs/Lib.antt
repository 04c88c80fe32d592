pub mod Gathered
pub mod Changes
pub mod Cuts
