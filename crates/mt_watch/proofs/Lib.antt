pub mod AskLemmas
pub mod ScopeLemmas
