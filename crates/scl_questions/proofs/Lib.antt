pub mod AnswerLaws
pub mod SameLaws
pub mod SameWords
pub mod TalkLaws
