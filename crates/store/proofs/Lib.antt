pub mod Pairs
pub mod Leads
