pub mod Publications
pub mod LookUp
pub mod Places
pub mod Rules
pub mod Differences
pub mod Turns
