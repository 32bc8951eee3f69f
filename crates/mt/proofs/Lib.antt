pub mod ExportLemmas
pub mod NameLemmas
pub mod SessionLemmas
pub mod Values
