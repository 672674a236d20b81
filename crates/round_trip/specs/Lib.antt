pub mod WriteRead
pub mod ReadWrite
