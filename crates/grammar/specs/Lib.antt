pub mod Came
pub mod Expression
pub mod Flaws
pub mod Form
pub mod Line
pub mod Walk
