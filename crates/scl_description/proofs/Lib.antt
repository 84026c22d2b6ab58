pub mod CutLaws
pub mod FieldLaws
pub mod WrittenFieldLaws
pub mod TextLaws
pub mod TakerLaws
pub mod RowLaws
pub mod RecordLaws
