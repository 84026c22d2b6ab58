mod CharLaws
mod EachLaws
mod NameLaws
mod FieldLaws
mod JsonLaws
