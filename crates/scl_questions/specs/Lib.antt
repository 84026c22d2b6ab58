pub mod Answers
pub mod Rounds
pub mod Same
pub mod Talks
pub mod Told
pub mod Views
