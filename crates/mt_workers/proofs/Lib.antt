mod AdvanceLemmas
mod CallLemmas
mod CollectedLemmas
mod QueryLemmas
mod RunLemmas
