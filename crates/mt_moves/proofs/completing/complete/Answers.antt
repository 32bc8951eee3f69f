-- The workflow is the one that can be completed.
use Rattle.std.proofs.Common.{◌≡◌, Some, rules}
use Rattle.mt_stands.specs.Base.{workflow_at}
use Rattle.mt_moves.proofs.completing.complete.Goals as goal

pub write_end-requires-clause-places : goal.write_end-requires-clause-places
write_end-requires-clause-places c =
    let w = c.in-Some.workflow.now in
    let found : workflow_at c.args.workflows.now.entries c.args.name.now ≡ Some w = search rules in
    c.requires.places w found
