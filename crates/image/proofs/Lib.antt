pub mod Dealing
pub mod Deals
pub mod Laws
pub mod Rounds
pub mod Runs
