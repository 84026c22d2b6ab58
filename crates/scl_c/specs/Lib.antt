pub mod Texts
pub mod Described
pub mod Catalogues
pub mod Memory
