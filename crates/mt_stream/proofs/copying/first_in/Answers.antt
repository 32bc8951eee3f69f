-- The first row from the range's start on decides.
use Rattle.std.proofs.Common.{sym, ap, ◌∙◌}
use Rattle.mt_primary.specs.Reads.{next_row}
use Rattle.mt_stream.specs.Loops.{behind_start}
use Rattle.mt_stream.proofs.LeftLemmas.{in-none, in-past, in-some}
use Rattle.mt_stream.proofs.copying.first_in.Goals.{in_default-via-in-Some+else-holds, in_default-via-in_default}
use Rattle.mt_stream.proofs.copying.first_in.Goals as goal

pub returns-in-Some : goal.returns-in-Some
returns-in-Some c =
    let from = sym (c.behind_start-from.ensures ∙ ap (λ n. behind_start n c.args.behind) c.first_key.ensures) in
    sym (in-some c.args.source.now c.args.keys.now c.args.table.now c.args.behind (c.in-Some.key, c.in-Some.value.now)
    (ap (next_row c.args.source.now c.args.table.now) from ∙ sym c.in-Some.ensures) (sym c.holds.ensures ∙ c.if-holds.true))

pub returns-in_default : goal.returns-in_default
returns-in_default c =
    let from = sym (c.behind_start-from.ensures ∙ ap (λ n. behind_start n c.args.behind) c.first_key.ensures) in
    elim c.in_default.branch [
      | in_default-via-in-Some+else-holds w ↦
          sym (in-past c.args.source.now c.args.keys.now c.args.table.now c.args.behind (w.in-Some.key, w.in-Some.value.now) c.facts.ensures
          (ap (next_row c.args.source.now c.args.table.now) from ∙ sym w.in-Some.ensures) (sym w.holds.ensures ∙ w.if-holds.false))
      | in_default-via-in_default w ↦
          sym (in-none c.args.source.now c.args.keys.now c.args.table.now c.args.behind (ap (next_row c.args.source.now c.args.table.now) from ∙ sym w.in_default.ensures))
    ]
