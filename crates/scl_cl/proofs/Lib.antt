pub mod BatchLaws
pub mod RequestLaws
pub mod WrittenLaws
pub mod BadLineLaws
pub mod TextAgainLaws
