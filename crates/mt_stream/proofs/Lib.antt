pub mod CopyLemmas
pub mod FollowLemmas
pub mod ListLemmas
pub mod PlaceLemmas
pub mod PutLemmas
pub mod ReadLemmas
pub mod LeftLemmas
pub mod UncopiedLemmas
