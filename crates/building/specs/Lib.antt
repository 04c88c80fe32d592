pub mod Course
pub mod Finish
pub mod Step
