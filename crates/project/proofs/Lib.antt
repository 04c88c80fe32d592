pub mod Arranging
pub mod Lacking
pub mod Listed
pub mod Places
pub mod Rows
pub mod Standing
