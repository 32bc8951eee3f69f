-- The tables before this one are written back.
use Rattle.std.proofs.Common.{◌≡◌, fold, take}
use Rattle.mt_steps.specs.Entries.{with_recorded}
use Rattle.mt_steps.specs.Records.{table_entries}
use Rattle.mt_steps.specs.Plans.{number}
use Rattle.mt_steps.proofs.entries.write_back.Given as goal

abbrev pub invariant-loop-noted : goal.invariant-loop-noted
invariant-loop-noted l = l.topology ≡ fold (λ u r. fold (with_recorded l.workflow (number l.step)) u (table_entries l.source l.target r)) l.initial.topology (take l.noted-index l.records)
