pub mod Advance
pub mod Builds
pub mod Creates
pub mod Faults
pub mod Workflows
