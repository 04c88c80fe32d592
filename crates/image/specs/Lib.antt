pub mod Dealt
pub mod Laid
pub mod Picture
pub mod Round
