pub mod Adding
pub mod Format
pub mod Pieces
