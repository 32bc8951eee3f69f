mod AllLemmas
mod BlankLemmas
pub mod CutLemmas
pub mod GoesLemmas
pub mod KnownLemmas
mod LaneLemmas
pub mod LineLemmas
pub mod ManyWordsLemmas
pub mod NumberLemmas
pub mod ReadLemmas
pub mod RowLemmas
mod TextLemmas
mod TypeLemmas
pub mod WordLemmas
