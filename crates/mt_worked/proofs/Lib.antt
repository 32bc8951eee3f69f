pub mod DriveLemmas
pub mod ViewLemmas
