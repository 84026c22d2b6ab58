pub mod Firsts
pub mod Nothing
pub mod Objects
