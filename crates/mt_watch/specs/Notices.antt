-- Notices of a change.
use Rattle.std.specs.Prelude.{◌≡◌, List, Result, Ok, Err}
use Rattle.mt_model.specs.declared.entries.Entry.{Entry}
use Rattle.mt_model.specs.declared.entries.Scope.{Scope}
use Rattle.mt_watch.specs.declared.fault.WatchersFault.{WatchersFault}
use Rattle.mt_watch.specs.declared.fault.WatchersFault.TheVariants.{Memory}
pub use Rattle.mt_model.specs.Notices.{concerns, notice_of}

-- what making a notice answers
abbrev pub Notes : Scope → List Entry → Result (List Entry) WatchersFault → Type 0
Notes scope change (Ok notice) = notice ≡ notice_of scope change
Notes scope change (Err fault) = fault ≡ Memory
