pub mod ExtendLaws
pub mod LeadLaws
pub mod LoadLaws
pub mod LookLaws
