pub mod Comparing
pub mod Courses
pub mod Finishing
pub mod Found
pub mod Prepared
pub mod Units
pub mod Viewed
