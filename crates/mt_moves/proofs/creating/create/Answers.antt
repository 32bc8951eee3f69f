-- A set names each table once.
use Rattle.std.proofs.Common.{◌≡◌, subst, sym, ◌∙◌}
use Rattle.mt_plain.specs.Plain.{each_once}
use Rattle.mt_laws.proofs.SetLemmas.{once-distinct, once-stays}
use Rattle.mt_moves.proofs.creating.create.Goals as goal

pub create_set-requires-2-clause-once : goal.create_set-requires-2-clause-once
create_set-requires-2-clause-once g c =
    subst (λ tables. each_once tables ≡ tables) (sym (c.as_slice.ensures.value ∙ c.each_once-set.ensures)) (once-stays (each_once c.args.asked.tables.now) (once-distinct c.args.asked.tables.now))
