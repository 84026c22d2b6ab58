pub mod Texts
pub mod Json
pub mod Laws
pub mod Members
pub mod MembersGiven
pub mod Objects
pub mod Rests
