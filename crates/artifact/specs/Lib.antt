pub mod Art
pub mod Round
