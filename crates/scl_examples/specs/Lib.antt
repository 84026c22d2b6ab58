-- Rows of definitions, worked by hand.
pub mod Written
pub mod Options
pub mod Paths
pub mod Texts
pub mod Decoded
pub mod Languages
pub mod Words
