-- What the contracts of public functions cite.
pub mod Characters
pub mod Decoding
pub mod DiabText
pub mod Expand
pub mod Expanded
pub mod ExpansionLaws
pub mod GnuText
pub mod MsvcText
pub mod Openings
pub mod Paths
pub mod ResponseFiles
pub mod Sources
pub mod Views
pub mod Wanted
pub mod Within
pub mod WordsToCome
-- What only the contracts of private functions cite: how the code stores and reads what the definitions above say.
pub mod ExpansionState
pub mod GnuReader
pub mod MsvcReader
pub mod PathEntries
pub mod PathMaps
pub mod PathTrees
pub mod Walks
