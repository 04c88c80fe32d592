pub mod Arithmetic
pub mod Evaluation
pub mod Needed
pub mod Solved
