pub mod Forms
pub mod Stream
