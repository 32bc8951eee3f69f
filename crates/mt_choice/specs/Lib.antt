pub mod Command
pub mod Keyspaces
pub mod Meaning
pub mod Texts
pub mod Words
