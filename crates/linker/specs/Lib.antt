pub mod Assembled
pub mod Place
