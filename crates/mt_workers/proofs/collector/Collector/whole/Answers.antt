-- The lines of one worker more are there; those of the last one were.
use Rattle.std.proofs.Common.{◌≡◌, ◌<◌, true, false, get_or, length, below_more, subst, sym, ◌∙◌, refl, arith}
use Rattle.std.proofs.lemmas.Bool.{true≢false}
use Rattle.mt_workers.specs.Collected.{HasFirst}
use Rattle.mt_workers.proofs.CollectedLemmas.{first_from, whole_from}
use Rattle.mt_workers.proofs.collector.Collector.whole.Goals as goal

pub loop-worker-preserved : goal.loop-worker-preserved
loop-worker-preserved c =
    let there : c.has_first.result ≡ true = search (c.if-not-has_first.false) in
    below_more (λ w. HasFirst c.args.self.now w (get_or c.lines-lines.result.now w 0)) c.loop-worker.worker c.loop-worker.invariant (c.has_first.ensures.0 there)

pub returns-then-not-has_first : goal.returns-then-not-has_first
returns-then-not-has_first c =
    let w = c.loop-worker.worker in
    let lacks : c.has_first.result ≡ false = search (c.if-not-has_first.true) in (
      λ no. absurd (true≢false (sym no)),
      λ whole. absurd
          (true≢false (sym
          (c.has_first.ensures.1 (subst (λ ls. HasFirst c.args.self.now w (get_or ls w 0)) (sym c.lines-lines.ensures) (first_from c.args.self.now w whole))) ∙ lacks)),
    )

pub returns : goal.returns
returns c = (
  λ yes. whole_from c.args.self.now c.facts.ensures
      (λ w inside. let before : w < c.loop-worker.worker = omega (arith, subst (λ ls. w < length ls) (sym c.lines-lines.ensures) inside, c.loop-worker-test.false) in
      subst (λ ls. HasFirst c.args.self.now w (get_or ls w 0)) c.lines-lines.ensures (c.loop-worker.invariant w before)),
  λ whole. refl,
)
