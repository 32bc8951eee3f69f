pub mod Agreements
pub mod Faults
