-- A way that is open has a step left.
use Rattle.std.proofs.Common.{◌≡◌, inl, inr, suc, ◌+◌, ◌-◌, ◌≤◌, Bool, true, false, not, cond, eqb, Some, refl, sym, ap, ◌∙◌, arith}
use Rattle.std.specs.Prelude.{◌&&◌, ◌||◌}
use Rattle.std.proofs.lemmas.Bool.{true≢false, eq-eqb}
use Rattle.mt_names.specs.Shards.{shard_count}
use Rattle.mt_plain.specs.Next.{closes, live_stepped, live_undone, types_and, types_without, with_way_to}
use Rattle.mt_plain.specs.Events.{Event, Way}
use Rattle.mt_plain.specs.Plain.{Live, Plain, behind_last, changes_primary, differ, first_step, next_step, repeated_step, write_journal}
use Rattle.mt_laws.specs.WayBack.{IsReached}
use Rattle.mt_laws.proofs.ChangeLemmas.{made_live, sides-advanced}
use Rattle.mt_laws.proofs.KeepLemmas.{Keeps}
use Rattle.mt_laws.proofs.LiveLemmas.{IsIn}
use Rattle.mt_laws.proofs.ReachLemmas.{reached_have}
use Rattle.mt_laws.proofs.RefusalLemmas.{reverse-none, switch-none}
use Rattle.mt_laws.proofs.StepCountLemmas.{backward_has_steps, forward_has_steps, has_steps}
use Rattle.mt_laws.proofs.UntouchedLemmas.{traffic-advanced}
use Rattle.mt_laws.proofs.WayStepLemmas.{OneOn, at_first, fewer-le, next_on, fewer, more, no_way_holds, way-stepped, way-undone, way_holds, way_holds-by}

abbrev pub HasStep : Live → Type 0
HasStep w = (way : Way) → w.way ≡ Some way → suc (next_step way) ≤ behind_last way

-- of an open way
abbrev StepLeft : Way → Type 0
StepLeft way = suc (next_step way) ≤ behind_last way

one_more : (way : Way) → suc (next_step way) ≤ behind_last way → closes way ≡ false → suc (next_step (more way)) ≤ behind_last way
one_more way le goes_on = by (next_on way)
  where
    ne : suc (next_step way) ≡ behind_last way → ⊥
    ne is = true≢false (sym (eq-eqb (suc (next_step way)) (behind_last way) is) ∙ goes_on)

    by : OneOn (next_step (more way)) (next_step way) (repeated_step way) → suc (next_step (more way)) ≤ behind_last way
    by (inl e) = let n = ne in omega arith
    by (inr e) = let f = e.0 in omega arith

-- a way that begins has the first step before it
begun_left : (way : Way) → way.done ≡ 0 → suc (first_step way + 0) ≤ behind_last way → StepLeft way
begun_left way none le = let e = at_first way none in omega arith

has_step_kept : (p : Plain) (event : Event) (w : Live) → HasStep w → Keeps HasStep p event w
has_step_kept p event w holds = record {
  same = holds;
  switch = λ types begins none. way_holds StepLeft (with_way_to false (λ switched. types_and switched types) w) _ refl (begun_left (record { back = false; shards = shard_count w.cuts; before = w.switched; after = types_and w.switched types; done = 0; undoing = false }) refl (has_steps (differ w.switched.primary (w.switched.primary || types.primary)) (differ w.switched.replica (w.switched.replica || types.replica)) (differ w.switched.rdonly (w.switched.rdonly || types.rdonly)) (forward_has_steps w.switched types (switch-none p types w none).1)));
  reverse = λ types begins none. way_holds StepLeft (with_way_to true (λ switched. types_without switched types) w) _ refl (begun_left (record { back = true; shards = shard_count w.cuts; before = w.switched; after = types_without w.switched types; done = 0; undoing = false }) refl (has_steps (differ w.switched.primary (w.switched.primary && not types.primary)) (differ w.switched.replica (w.switched.replica && not types.replica)) (differ w.switched.rdonly (w.switched.rdonly && not types.rdonly)) (backward_has_steps w.switched types (reverse-none p types w none).1)));
  steps = λ at way steps opens none.
      way_holds-by StepLeft (live_stepped p w way) (closes way) (more way) (way-stepped p w way)
      (λ goes_on. one_more way (holds way opens) goes_on);
  undoes = λ at way undoes opens none.
      way_holds-by StepLeft (live_undone w way) (eqb (way.done - 1) 0) (fewer way) (way-undone w way)
      (λ goes_on. let le = fewer-le way in let h = holds way opens in omega arith);
  advances = λ adv workflow stream shard at at_most events rows live none given way opens.
      holds way (sym (ap (λ t. t.1) (traffic-advanced p w stream shard at at_most events rows)) ∙ opens);
}

pub reached_has_step : (p : Plain) → IsReached p → (w : Live) → IsIn w p.lives → HasStep w
reached_has_step = reached_have HasStep (λ p name source target tables. no_way_holds StepLeft (made_live p name source target tables) refl) has_step_kept

-- a plan has the shards of the target
abbrev pub OfShards : Live → Way → Type 0
OfShards w way = way.shards ≡ shard_count w.cuts

abbrev pub HasShards : Live → Type 0
HasShards w = (way : Way) → w.way ≡ Some way → OfShards w way

shards_kept : (p : Plain) (event : Event) (w : Live) → HasShards w → Keeps HasShards p event w
shards_kept p event w holds = record {
  same = holds;
  switch = λ types begins none. way_holds (OfShards w) (with_way_to false (λ switched. types_and switched types) w) _ refl refl;
  reverse = λ types begins none. way_holds (OfShards w) (with_way_to true (λ switched. types_without switched types) w) _ refl refl;
  steps = λ at way steps opens none. way_holds-by (OfShards w) (live_stepped p w way) (closes way) (more way) (way-stepped p w way) (λ goes_on. holds way opens);
  undoes = λ at way undoes opens none. way_holds-by (OfShards w) (live_undone w way) (eqb (way.done - 1) 0) (fewer way) (way-undone w way) (λ goes_on. holds way opens);
  advances = λ adv workflow stream shard at at_most events rows live none given way opens.
      holds way (sym (ap (λ t. t.1) (traffic-advanced p w stream shard at at_most events rows)) ∙ opens)
      ∙ ap shard_count (sides-advanced p w stream shard at at_most events rows).cuts;
}

pub reached_shards : (p : Plain) → IsReached p → (w : Live) → IsIn w p.lives → HasShards w
reached_shards = reached_have HasShards (λ p name source target tables. no_way_holds (OfShards (made_live p name source target tables)) (made_live p name source target tables) refl) shards_kept

-- a way that comes to the journal changes writes
pub journals : (p : Plain) → IsReached p → (w : Live) → IsIn w p.lives → (way : Way) → w.way ≡ Some way → next_step way ≡ write_journal → changes_primary way ≡ true
journals p reached w in_it way opens here = by (changes_primary way) refl
  where
    by : (t : Bool) → changes_primary way ≡ t → changes_primary way ≡ true
    by true t = t
    by false t =
        let le = reached_has_step p reached w in_it way opens in
        let e : behind_last way ≡ 1 = ap (λ b. cond b 12 1) t in
        let six : next_step way ≡ 6 = here in
        absurd (omega arith)
