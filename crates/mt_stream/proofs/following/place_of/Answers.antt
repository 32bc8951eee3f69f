-- The first place at which the table stands.
use Rattle.std.proofs.Common.{[], sym, ◌∙◌, arith, length}
use Rattle.std.proofs.lemmas.List.{get_or_read}
use Rattle.std.proofs.lemmas.List.Sums.{position_or_len_is}
use Rattle.mt_names.specs.Names.{same_text}
use Rattle.mt_stream.proofs.following.place_of.Goals as goal

pub returns-then-eq : goal.returns-then-eq
returns-then-eq c =
    sym (position_or_len_is (λ t. same_text t c.args.table.now) c.args.tables.now c.loop-place.place [] (omega arith) c.loop-place.invariant
    (λ below. rw (← get_or_read c.args.tables.now c.loop-place.place c.index-tables-place.result below c.index-tables-place.is []) (sym c.eq.ensures ∙ c.if-eq.true)))

pub returns : goal.returns
returns c =
    sym (position_or_len_is (λ t. same_text t c.args.table.now) c.args.tables.now (length c.args.tables.now) [] (omega arith)
    (λ k below. c.loop-place.invariant k (omega (arith, c.loop-place-test.false)))
    (λ below. absurd (omega (arith, below))))
