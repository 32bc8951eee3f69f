-- What is kept for the shard alone is taken.
use Rattle.std.proofs.Common.{◌≡◌, Option, map, set, ap, rules, sym, ◌∙◌}
use Rattle.mt_model.specs.Topology.{Marks}
use Rattle.mt_steps.specs.declared.log.Late.{Late}
use Rattle.mt_steps.specs.declared.log.PutAway.{PutAway}
use Rattle.mt_steps.specs.Steps.{left_listed}
use Rattle.mt_steps.specs.Undo.{UndoState}
use Rattle.mt_steps.proofs.LaneLemmas.{seen, seen_listed}
use Rattle.mt_steps.proofs.log.UndoLog.take_listed.Goals as goal

pub returns-in-RefreshSource-clause-left : goal.returns-in-RefreshSource-clause-left
returns-in-RefreshSource-clause-left c =
    let late = c.deref_mut.result.now in
    let records = c.self.inside.records.items in
    let i = c.args.shard in
    let n = c.from.result in
    let m = c.replace.new.dest in
    let here = seen late.source late.target records late.lanes.items in
    let listed = map (λ (k : PutAway). k.listed) late.lanes.items in
    let lent : late ≡ c.self.inside.late.value = search rules in
    let behind : UndoState → UndoState = λ l. record l { listed = left_listed c.args.step i l.listed } in
    seen_listed late.source late.target records late.lanes.items c.index_mut.result.now m n c.index_mut.ensures.value
    ∙ ap (λ j. record here { listed = set listed j m }) c.from.ensures ∙ ap (λ (o : Option Marks). record here { listed = set listed i o }) c.replace.ensures.after
    ∙ ap (λ step. record here { listed = left_listed step i listed }) (sym c.in-RefreshSource.is) ∙ ap (λ (l : Late). behind (seen l.source l.target records l.lanes.items)) lent ∙ ap behind c.self.view_is
