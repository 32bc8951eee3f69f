-- One primary more, up to all.
use Rattle.std.proofs.Common.{ap, get_or, ◌∙◌}
use Rattle.mt_primary.specs.Denials.{told_by_refresh, with_denials}
use Rattle.mt_moves.proofs.ChangeLemmas.{changed-all, changed-next}
use Rattle.mt_moves.proofs.target.take_denied.Goals as goal

pub loop-index-preserved : goal.loop-index-preserved
loop-index-preserved c =
    let w = c.args.workflow.now in
    let notice = c.args.notice.now in
    let was = get_or c.loop-index.primaries c.loop-index.index c.index-primaries-index.result in
    changed-next (with_denials (told_by_refresh w.target notice w.tables)) c.args.primaries.now c.loop-index.primaries c.loop-index.index c.index-primaries-index.result c.take_denied.new.self
    c.loop-index-test.true c.loop-index.invariant
    (c.take_denied.ensures.taken ∙ ap (λ k. with_denials (told_by_refresh k notice c.tables.result.now) was) c.target.ensures
    ∙ ap (λ ts. with_denials (told_by_refresh w.target notice ts) was) c.tables.ensures)

pub returns : goal.returns
returns c =
    let w = c.args.workflow.now in
    c.loop-index.invariant ∙ changed-all (with_denials (told_by_refresh w.target c.args.notice.now w.tables)) c.loop-index.index c.args.primaries.now c.loop-index-test.false
