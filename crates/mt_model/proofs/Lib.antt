pub mod AboutLemmas
pub mod DistinctLemmas
pub mod OrderLemmas
pub mod PartLemmas
pub mod PlaceLemmas
pub mod RouteLemmas
pub mod TopologyLemmas
