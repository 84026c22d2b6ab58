pub mod CaseLemmas
mod DiskLineLaws
pub mod HashedLaws
pub mod LoadedLaws
pub mod NulLaws
pub mod ReplyLaws
pub mod SameKeyLaws
