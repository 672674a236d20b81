pub mod Writing
pub mod Wrote
pub mod Closing
pub mod Storing
