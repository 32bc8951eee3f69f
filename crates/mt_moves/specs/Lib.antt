pub mod Cancel
pub mod Create
pub mod Parts
pub mod Places
pub mod Target
pub mod Ways
