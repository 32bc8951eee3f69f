pub mod AskLemmas
pub mod CanonLemmas
pub mod LineRunLemmas
pub mod NameLemmas
pub mod RowLemmas
pub mod RunLemmas
pub mod ThroughLemmas
