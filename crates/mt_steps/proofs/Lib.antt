mod AttemptLemmas
pub mod BackLemmas
pub mod EntryLemmas
mod GivenLemmas
mod LaneLemmas
pub mod PlanLemmas
mod SideLemmas
pub mod StepLemmas
mod SweepLemmas
mod TableLemmas
