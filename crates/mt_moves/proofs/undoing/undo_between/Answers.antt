-- The way alone is closed.
use Rattle.std.proofs.Common.{◌≡◌, ◌==◌, rules, true}
use Rattle.mt_workflow.specs.Workflows.{way_from}
use Rattle.mt_moves.proofs.BetweenLemmas.{closed}
use Rattle.mt_moves.proofs.undoing.undo_between.Goals as goal

pub returns-then-way-eq0 : goal.returns-then-way-eq0
returns-then-way-eq0 g c =
    let none : (c.args.way.done == 0) ≡ true = search rules in
    closed c.args.topology.now c.args.primaries.now c.args.workflow.now c.set_way.new.self (way_from c.args.way) c.args.journal.now c.args.kept.now
    none c.set_way.ensures.after
