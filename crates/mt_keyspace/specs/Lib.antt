pub mod Edits
pub mod Keyspaces
pub mod Load
pub mod Room
pub mod Values
pub mod Written
