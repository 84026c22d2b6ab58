-- What the contracts of public functions cite.
pub mod DollarQuotes
pub mod Laws
pub mod Operators
pub mod Quoted
pub mod ShellText
pub mod Shown
pub mod WindowsText
-- What only the contracts of private functions cite: how the code reads a text byte by byte.
pub mod ShellReader
pub mod WindowsReader
