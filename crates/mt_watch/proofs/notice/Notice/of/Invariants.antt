use Rattle.std.proofs.Common.{◌≡◌, take}
use Rattle.std.specs.List.{filter}
use Rattle.mt_watch.specs.Notices.{concerns}
use Rattle.mt_watch.proofs.notice.Notice.of.Given as goal

abbrev pub invariant-loop-entry : goal.invariant-loop-entry
invariant-loop-entry l = l.notice ≡ filter (concerns l.scope) (take l.entry-index l.entry-items)
