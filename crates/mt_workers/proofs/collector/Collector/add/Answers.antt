-- A message of a line that is waited for and isn't there goes last.
use Rattle.std.proofs.Common.{◌≡◌, ◌==◌, ◌&&◌, ◌<◌, MatchBool, get_or, ap, sym, subst, ◌∙◌}
use Rattle.indexmap.proofs.CallerLemmas.{insert_entry-new}
use Rattle.mt_workers.specs.Collected.{Adds, IsCollected, collected_in, lines_of, messages_in, times}
use Rattle.mt_workers.proofs.CollectedLemmas.{absent, added, count, kept_more}
use Rattle.mt_workers.proofs.collector.Collector.add.Goals as goal
use Rattle.mt_workers.proofs.collector.Collector.add.Goals.{in-Ok, in-Err}

pub invariant_of-self : goal.invariant_of-self
invariant_of-self c =
    let lines = c.self.inside.lines.items in
    let rs = c.self.inside.replies.entries in
    let w = c.from-worker.result in
    let l = c.args.message.line in
    let none : times c.args.self.now w l ≡ 0
    = subst (λ t. MatchBool t (times c.args.self.now w l ≡ 1) (times c.args.self.now w l ≡ 0)) c.if-has.false c.has.ensures in
    let lacks : count w l (messages_in rs) ≡ 0 = ap (λ d. times d w l) c.self.view_is ∙ none in
    let inside : l < get_or lines w 0
    = subst (λ n. l < n) (c.lines_of.ensures ∙ ap (λ d. lines_of d w) (sym c.self.view_is)) c.if-line-lines_of.false in
    elim c.match-insert.branch as (λ b. IsCollected (collected_in lines c.insert.new.self.entries)) [
      | in-Ok o ↦
          kept_more lines rs c.insert.new.self.entries w l c.args.message.reply
          (o.in-Ok.ensures.entries ∙ insert_entry-new (λ a b. (a.0 == b.0) && (a.1 == b.1)) c.self.inside.replies (w, l) c.args.message.reply (absent rs w l lacks))
          c.self.invariant inside lacks
      | in-Err e ↦ subst (λ es. IsCollected (collected_in lines es)) (sym e.in-Err.ensures.err) c.self.invariant
    ]

pub returns : goal.returns
returns c =
    let lines = c.self.inside.lines.items in
    let rs = c.self.inside.replies.entries in
    let old = c.args.self.now in
    let w = c.from-worker.result in
    let m = c.args.message in
    let none : times old w m.line ≡ 0 = subst (λ t. MatchBool t (times old w m.line ≡ 1) (times old w m.line ≡ 0)) c.if-has.false c.has.ensures in
    let lacks : count w m.line (messages_in rs) ≡ 0 = ap (λ d. times d w m.line) c.self.view_is ∙ none in
    let inside : m.line < lines_of old w = subst (λ n. m.line < n) c.lines_of.ensures c.if-line-lines_of.false in
    elim c.match-insert.branch as (λ b. Adds old m c.match-insert.result (collected_in lines c.insert.new.self.entries)) [
      | in-Ok o ↦ subst (λ r. Adds old m r (collected_in lines c.insert.new.self.entries)) (sym o.result-is)
          (added lines rs c.insert.new.self.entries old m w c.self.view_is c.from-worker.ensures inside none
          (o.in-Ok.ensures.entries ∙ insert_entry-new (λ a b. (a.0 == b.0) && (a.1 == b.1)) c.self.inside.replies (w, m.line) m.reply (absent rs w m.line lacks)))
      | in-Err e ↦ subst (λ r. Adds old m r (collected_in lines c.insert.new.self.entries)) (sym e.result-is) (
        subst (λ v. m.line < lines_of old v) c.from-worker.ensures inside,
        subst (λ v. times old v m.line ≡ 0) c.from-worker.ensures none,
        ap (collected_in lines) e.in-Err.ensures.err ∙ c.self.view_is,
      )
    ]
