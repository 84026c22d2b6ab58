pub mod Over
pub mod Text
