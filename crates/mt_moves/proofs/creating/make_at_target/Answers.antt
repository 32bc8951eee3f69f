-- The target's primaries are made where they stand.
use Rattle.std.proofs.Common.{ap, get_or, length, subst, ◌<◌, ◌∙◌}
use Rattle.mt_primary.specs.Primary.{empty_primary, has_table}
use Rattle.mt_primary.specs.Places.{IsAt}
use Rattle.mt_moves.specs.Target.{MakesTarget}
use Rattle.mt_moves.proofs.PrimaryLemmas.{lent-at}
use Rattle.mt_moves.proofs.creating.make_at_target.Goals as goal

pub make_target-requires : goal.make_target-requires
make_target-requires g c =
    let ps = c.args.primaries.now in
    let k = c.args.workflow.now.target in
    let at : IsAt ps k c.place_of-place.result = subst (λ name. IsAt ps name c.place_of-place.result) c.target.ensures c.place_of-place.ensures.at in
    let each = c.all_mut.ensures.value k at in
    record {
      absent = λ shard within table is.
          ap (λ (l : _). has_table (get_or l shard empty_primary) table) each ∙ c.requires.absent shard (subst (λ l. shard < length l) each within) table is;
    }

pub returns : goal.returns
returns g c =
    let ps = c.args.primaries.now in
    let w = c.args.workflow.now in
    let at : IsAt ps w.target c.place_of-place.result = subst (λ name. IsAt ps name c.place_of-place.result) c.target.ensures c.place_of-place.ensures.at in
    let each = c.all_mut.ensures.value w.target at in (
      c.make_target.new.primaries,
      subst (λ old. MakesTarget (g.W.Asks.scopes c.args.watchers.now) (g.W.Asks.may_answer c.args.watchers.now) w c.args.change.now old c.make_target.result c.make_target.new.primaries) each c.make_target.ensures,
      lent-at ps w.target c.place_of-place.result c.make_target.new.primaries at (c.make_target.auto.primaries ∙ ap length each),
    )
