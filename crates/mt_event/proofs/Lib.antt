pub mod DecideLemmas
pub mod SameLemmas
pub mod TellLemmas
