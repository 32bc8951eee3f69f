-- The entries from the position on that are left.
use Rattle.std.proofs.Common.{refl, sym, ◌∙◌, arith}
use Rattle.mt_store.proofs.ReadLemmas.{from_end, from_end_next, from_entry}
use Rattle.mt_stream.proofs.following.names_any.Goals.{in-Some+else-is_about, in_default}
use Rattle.mt_stream.proofs.following.names_any.Goals as goal

pub returns-then-is_about : goal.returns-then-is_about
returns-then-is_about c =
    let at = from_entry c.args.source.now.log c.loop-at.at c.in-Some.change.now c.loop-at.invariant.0 (sym c.in-Some.ensures) in
    let named = sym c.is_about.ensures ∙ c.if-is_about.true in
    sym (c.loop-at.invariant.1 ∙ rw at (rw named refl))

pub loop-at-preserved : goal.loop-at-preserved
loop-at-preserved c =
    elim c.match-kept_entry.branch [
      | in-Some+else-is_about w ↦
          let at = from_entry c.args.source.now.log c.loop-at.at w.in-Some.change.now c.loop-at.invariant.0 (sym w.in-Some.ensures) in
          let named = sym w.is_about.ensures ∙ w.if-is_about.false in
          (omega (arith, c.loop-at.invariant.0), c.loop-at.invariant.1 ∙ rw at (rw named refl))
      | in_default w ↦
          let at = sym w.in_default.ensures in
          (omega (arith, c.loop-at.invariant.0), c.loop-at.invariant.1 ∙ rw (from_end c.args.source.now.log c.loop-at.at at, from_end_next c.args.source.now.log c.loop-at.at c.loop-at.invariant.0 at) refl)
    ]
