pub mod Chained
pub mod Walk
pub mod Slid
pub mod Marks
