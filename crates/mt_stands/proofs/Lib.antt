pub mod AdvanceKeepLemmas
pub mod AdvanceLemmas
pub mod BackLemmas
mod BeforeLemmas
pub mod BeginLemmas
pub mod BridgeLemmas
pub mod CancelLemmas
pub mod CompleteLemmas
pub mod CountLemmas
pub mod CreateLemmas
pub mod EndLemmas
pub mod FeedLemmas
pub mod FieldLemmas
pub mod HandLemmas
pub mod KeepLemmas
pub mod KeptLemmas
pub mod KeyLemmas
pub mod KnownLemmas
pub mod LaneLemmas
pub mod LogLemmas
pub mod NeededLemmas
pub mod PartLemmas
pub mod PlaceLemmas
mod PurgeLemmas
mod RangeLemmas
mod ReaderLemmas
pub mod RowCancelLemmas
pub mod RowCreateLemmas
pub mod RowWriteLemmas
pub mod StandLemmas
pub mod StepLemmas
pub mod StreamLemmas
pub mod TableCountLemmas
pub mod TableLemmas
mod UnfedLemmas
pub mod UnreadLemmas
pub mod WriteLemmas
