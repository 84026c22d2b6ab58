pub mod Explanations
pub mod Table
