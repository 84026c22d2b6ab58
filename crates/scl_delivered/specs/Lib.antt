pub mod Macros
pub mod Delivered
pub mod Rows
pub mod Views
pub mod Laws
pub mod Hits
