-- One key more.
use Rattle.std.proofs.Common.{◌≡◌, ◌≢◌, ℕ, ◌<◌, ◌⊎◌, inl, inr, true, false, not, slice_index_or, sym, subst, ap, ◌∙◌, arith, rules}
use Rattle.std.proofs.lemmas.Bool.Decides.{eqb_tells}
use Rattle.std.proofs.lemmas.Option.{get_or_from_slice_get}
use Rattle.std.proofs.Math.Dec.{eqb}
use Rattle.mt_model.specs.Topology.{has_place}
use Rattle.mt_workflow.specs.Workflows.{keys_of_part}
use Rattle.mt_steps_tests.proofs.scene.has_places.Goals as goal

pub loop-index-preserved : goal.loop-index-preserved
loop-index-preserved c k d below = by (eqb_tells k c.loop-index.index)
  where
    here : has_place c.args.topology.now c.part_key.result ≡ true
    here = search rules

    by : (((eqb k c.loop-index.index) ≡ true) × (k ≡ c.loop-index.index)) ⊎ (((eqb k c.loop-index.index) ≡ false) × (k ≢ c.loop-index.index))
        → has_place c.args.topology.now (slice_index_or (keys_of_part c.args.workflow.now) k d) ≡ true
    by (inl same) = rw (same.1) (rw (get_or_from_slice_get (keys_of_part c.args.workflow.now) c.loop-index.index c.part_key.result d (sym c.part_key.ensures)) here)
    by (inr other) = c.loop-index.invariant k d (omega (arith, below, other.1))
