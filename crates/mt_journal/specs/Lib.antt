pub mod Faults
pub mod Journal
