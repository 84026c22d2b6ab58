pub mod Lines
pub mod Fields
pub mod Rows
pub mod Takers
pub mod RowLists
pub mod Names
pub mod Records
pub mod Laws
