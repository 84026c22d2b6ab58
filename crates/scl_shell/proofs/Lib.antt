pub mod ShellLemmas
pub mod ShellLaws
pub mod ShownLaws
pub mod WindowsLemmas
