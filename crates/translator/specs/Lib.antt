pub mod Owed
pub mod House
pub mod Echoed
pub mod EchoLaws
