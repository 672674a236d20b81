pub mod Texts
pub mod Lines
pub mod Puts
pub mod Replies
pub mod Closing
pub mod Orders
