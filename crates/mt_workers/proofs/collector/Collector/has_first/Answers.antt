-- One line more is there.
use Rattle.std.proofs.Common.{◌≡◌, true, MatchBool, below_more, subst}
use Rattle.mt_workers.specs.Collected.{times}
use Rattle.mt_workers.proofs.collector.Collector.has_first.Goals as goal

pub loop-line-preserved : goal.loop-line-preserved
loop-line-preserved c =
    let there : c.has.result ≡ true = search (c.if-not-has.false) in
    let now = c.args.self.now in
    let w = c.args.worker in
    let l = c.loop-line.line in
    below_more (λ k. times now w k ≡ 1) l c.loop-line.invariant (subst (λ t. MatchBool t (times now w l ≡ 1) (times now w l ≡ 0)) there c.has.ensures)
