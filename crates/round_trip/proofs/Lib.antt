pub mod WriteReads
pub mod ReadWrites
