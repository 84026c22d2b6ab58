pub mod Building
pub mod Depfile
pub mod Environment
pub mod ListsOf
pub mod Preprocess
pub mod Promises
pub mod ReadAgain
pub mod Reads
