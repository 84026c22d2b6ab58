pub mod SettingLaws
pub mod ExplainedLaws
pub mod DescriptionLaws
pub mod RowLaws
pub mod FindingLaws
pub mod DecidedLaws
pub mod KeepingLaws
pub mod VersionLaws
