pub mod Checked
pub mod Members
