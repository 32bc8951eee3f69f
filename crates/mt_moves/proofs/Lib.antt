pub mod BeginLemmas
pub mod BetweenLemmas
pub mod ChangeLemmas
pub mod CreateLemmas
pub mod EndLemmas
pub mod MakeLemmas
pub mod OnceLemmas
pub mod PrimaryLemmas
mod PurgeLemmas
pub mod ShardLemmas
mod StepLemmas
pub mod TargetLemmas
mod TypeLemmas
pub mod WriteLemmas
