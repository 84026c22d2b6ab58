mod TableLaws
mod TextLaws
