pub mod Names
pub mod Sees
pub mod Uses
