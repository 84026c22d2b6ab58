pub mod Building
pub mod ListsOf
pub mod OutputFiles
pub mod OwnTables
pub mod Runs
pub mod Preprocess
pub mod ReadAgain
pub mod Versions
