pub mod Alike
pub mod Builds
pub mod Keeping
pub mod Mirror
pub mod Shelves
pub mod Steps
