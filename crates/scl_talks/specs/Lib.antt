pub mod Names
pub mod Next
pub mod Replies
pub mod Talks
