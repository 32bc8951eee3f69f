pub mod ChoiceLemmas
pub mod NumberLemmas
pub mod OptionLemmas
pub mod RunLemmas
pub mod WordLemmas
