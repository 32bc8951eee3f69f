-- What is least with the workflows that are left is least with all.
use Rattle.std.proofs.Common.{◌≡◌}
use Rattle.std.specs.Prelude.{fold}
use Rattle.mt_stands.specs.Purges.{first_needed, least_of}
use Rattle.mt_moves.proofs.purging.first_needed.Given as goal

abbrev pub invariant-loop-workflow : goal.invariant-loop-workflow
invariant-loop-workflow l = fold (λ least entry. least_of l.keyspace l.shard least entry.1) l.least l.workflow-iterator ≡ first_needed l.workflows.entries l.keyspace l.shard l.end
