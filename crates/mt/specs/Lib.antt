pub mod Exports
pub mod Held
pub mod Names
pub mod Places
pub mod Sessions
