pub mod EditLemmas
pub mod FoundLemmas
pub mod HalfLemmas
pub mod OrderLemmas
pub mod PagesLemmas
pub mod PlaceLemmas
pub mod ReadLemmas
pub mod SegmentLemmas
