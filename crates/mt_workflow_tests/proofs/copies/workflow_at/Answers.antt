-- Its streams have the one table.
use Rattle.std.proofs.Common.{◌∷◌, [], ap, sym, ◌∙◌}
use Rattle.mt_names.specs.Shards.{ranges_of}
use Rattle.mt_model.specs.Topology.{cuts_at}
use Rattle.mt_plain.specs.Events.{forward}
use Rattle.mt_plain.specs.Plain.{each_once}
use Rattle.mt_workflow.specs.Workflows.{slot_of}
use Rattle.mt_workflow_tests.proofs.SlotLemmas.{new-tables}
use Rattle.mt_workflow_tests.proofs.copies.workflow_at.Goals as goal

pub returns : goal.returns
returns c = λ shard stream is.
    new-tables (each_once (c.copied.result ∷ [])) c.args.position (ranges_of (cuts_at c.args.topology.now.keyspaces c.in_ok-target.target)) shard stream
    (ap (λ w. slot_of w shard forward) (sym c.in_ok-new.ensures.value) ∙ is)
    ∙ ap (λ table. table ∷ []) c.copied.ensures
