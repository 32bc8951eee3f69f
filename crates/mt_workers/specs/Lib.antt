pub mod Advances
pub mod Collected
pub mod Controls
pub mod Faults
pub mod Queries
