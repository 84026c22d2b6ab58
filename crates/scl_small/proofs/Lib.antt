pub mod DiabAgainLaws
pub mod OwnTableLaws
pub mod ReadAgainLaws
pub mod ReadLaws
pub mod TaskingAgainLaws
