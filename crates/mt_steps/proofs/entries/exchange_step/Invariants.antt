-- The tables before this one are recorded and written.
use Rattle.std.proofs.Common.{◌≡◌, fold, take}
use Rattle.mt_steps.specs.Records.{table_entries}
use Rattle.mt_steps.specs.Plans.{number}
use Rattle.mt_steps.proofs.SweepLemmas.{AreSwept, over}
use Rattle.mt_steps.proofs.entries.exchange_step.Given as goal

abbrev pub invariant-loop-noted : goal.invariant-loop-noted
invariant-loop-noted l = record {
  swept : AreSwept l.workflow.source l.workflow.target l.workflow l.types (number l.step) l.initial.topology l.noted-index l.initial.records l.records;
  written : l.topology ≡ fold (λ u r. over l.workflow l.types (number l.step) u (table_entries l.workflow.source l.workflow.target r)) l.initial.topology (take l.noted-index l.initial.records);
}
