pub mod Faults
pub mod Fronts
pub mod Histories
pub mod Kept
pub mod Numbers
pub mod Passes
pub mod Room
pub mod Taken
