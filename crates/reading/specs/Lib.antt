pub mod Reading
pub mod Reader
pub mod Machine
