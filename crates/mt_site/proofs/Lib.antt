pub mod AdvanceLemmas
pub mod AppliedLemmas
pub mod CoreLemmas
pub mod DriveLemmas
pub mod GivenUpLemmas
pub mod HandLemmas
pub mod LeaveLemmas
pub mod OwedLemmas
pub mod PlacedLemmas
pub mod PrimaryLemmas
pub mod RunLemmas
pub mod ShardLemmas
pub mod ShowLemmas
pub mod SiteLemmas
pub mod StoodLemmas
pub mod TurnLemmas
mod PurgeLemmas
