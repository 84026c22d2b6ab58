-- What the contracts of public functions cite.
pub mod GnuWords
pub mod InPlace
pub mod InPlaceLaws
pub mod Otherwise
pub mod Pieces
pub mod Splitters
pub mod WindowsWords
-- What only the contracts of private functions cite: how the code stores what the definitions above say.
pub mod Readers
