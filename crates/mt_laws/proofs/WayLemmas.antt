-- What an event that is taken makes of the way of a live workflow.
use Rattle.std.proofs.Common.{◌≡◌, ◌≢◌, ℕ, ◌-◌, Bool, true, false, not, cond, eqb, List, Option, None, Some, refl, sym, ap, ◌∙◌, arith}
use Rattle.std.proofs.lemmas.Bool.{true≢false}
use Rattle.std.specs.Option.{option_map_or}
use Rattle.std.specs.Prelude.{◌||◌}
use Rattle.mt_names.specs.Shards.{shard_count}
use Rattle.mt_names.specs.declared.types.TypeSet.{TypeSet}
use Rattle.mt_names.specs.Names.{same_text}
use Rattle.mt_plain.specs.Answers.{Answers}
use Rattle.mt_plain.specs.Events.{Event, Answer, Refusal, nothing_under_way, past_journal, stale, Way}
use Rattle.mt_plain.specs.Next.{live_stepped, live_undone, types_and, types_without, closes, with_way_to}
use Rattle.mt_plain.specs.Plain.{Live, Plain, live_at, next_step, refresh_source, refresh_target, repeated_step, stands_done, write_journal}
use Rattle.mt_plain.specs.Refuse.{or_else, refuse_if, undo_refusal}
use Rattle.mt_laws.specs.Changes.{BeginsWay, IsStep}
use Rattle.mt_laws.specs.Copies.{Undoes}
use Rattle.mt_laws.proofs.ListLemmas.{cond-either}
use Rattle.mt_laws.proofs.ChangeLemmas.{live_next}
use Rattle.mt_laws.proofs.KeepLemmas.{Keeps, next_has}
use Rattle.mt_laws.proofs.RefusalLemmas.{or_else-none, refuse_if-none, switch-none, reverse-none}
use Rattle.mt_laws.proofs.UntouchedLemmas.{traffic-advanced}
use Rattle.mt_laws.proofs.WayStepLemmas.{fewer, more, not_before, now_done}

pub data WayChange (event : Event) (w v : Live) : Type 0 where
  kept : v.way ≡ w.way → v.switched ≡ w.switched → WayChange event w v
  begun : (way : Way) → BeginsWay event → w.way ≡ None → v.way ≡ Some way → way.before ≡ w.switched → v.switched ≡ w.switched → WayChange event w v
  goes_on : (way later : Way) → w.way ≡ Some way → v.way ≡ Some later → later.before ≡ way.before → later.after ≡ way.after
      → ((stands_done way write_journal ≡ false → w.switched ≡ way.before) → stands_done later write_journal ≡ false → v.switched ≡ later.before) → WayChange event w v
  completed : (way : Way) → IsStep event → w.way ≡ Some way → v.way ≡ None → v.switched ≡ way.after → WayChange event w v
  abandoned : (way : Way) → Undoes event → w.way ≡ Some way → v.way ≡ None → v.switched ≡ w.switched → stands_done way write_journal ≡ false → WayChange event w v

-- ---- a step

module _ (event : Event) (w : Live) (way : Way) (opens : w.way ≡ Some way) (steps : IsStep event) where
  -- what it leaves, by the traffic of the workflow after it
  stepped_to : (v : Live) → (t : Bool) → v.way ≡ cond t None (Some (more way)) → (t ≡ true → v.switched ≡ way.after)
      → (t ≡ false → (stands_done way write_journal ≡ false → w.switched ≡ way.before) → stands_done (more way) write_journal ≡ false → v.switched ≡ way.before) → WayChange event w v
  stepped_to v true is last settled = completed way steps opens is (last refl)
  stepped_to v false is last settled = goes_on way (more way) opens is refl refl (settled refl)

-- the journal is no refresh
pub journal_once : (way : Way) → write_journal ≢ repeated_step way
journal_once way = cond-either (λ n. write_journal ≢ n) way.back refresh_source refresh_target (λ e. absurd (omega arith)) (λ e. absurd (omega arith))

step_change : (p : Plain) (event : Event) (w : Live) (way : Way) → w.way ≡ Some way → IsStep event → WayChange event w (live_stepped p w way)
step_change p event w way opens steps =
    stepped_to event w way opens steps (live_stepped p w way) (closes way) refl
    (λ t. ap (λ l. cond (l || journals) way.after w.switched) t)
    (λ f settled before. ap (λ l. cond (l || journals) way.after w.switched) f ∙ by journals refl settled before)
  where
    journals : Bool
    journals = eqb (next_step way) write_journal

    by : (t : Bool) → journals ≡ t → (stands_done way write_journal ≡ false → w.switched ≡ way.before) → stands_done (more way) write_journal ≡ false → cond journals way.after w.switched ≡ way.before
    by true e settled before = absurd (true≢false (sym (now_done way write_journal (omega arith) (journal_once way) e) ∙ before))
    by false e settled before = ap (λ l. cond l way.after w.switched) e ∙ settled (not_before way write_journal before)

-- ---- an undo

undo_change : (event : Event) (w : Live) (way : Way) → w.way ≡ Some way → Undoes event → stands_done way write_journal ≡ false → WayChange event w (live_undone w way)
undo_change event w way opens undoes before = by (eqb (way.done - 1) 0) refl
  where
    by : (t : Bool) → eqb (way.done - 1) 0 ≡ t → WayChange event w (live_undone w way)
    by true t = abandoned way undoes opens (ap (λ l. cond l None (Some (fewer way))) t) refl before
    by false t = goes_on way (fewer way) opens (ap (λ l. cond l None (Some (fewer way))) t) refl refl (λ settled later. settled before)

-- ---- an event on a workflow

begin_change : (event : Event) (backward : Bool) (change : TypeSet → TypeSet) (w : Live) → BeginsWay event → w.way ≡ None → WayChange event w (with_way_to backward change w)
begin_change event backward change w begins rests =
    begun (record { back = backward; shards = shard_count w.cuts; before = w.switched; after = change w.switched; done = 0; undoing = false }) begins rests refl refl refl

pub undo_before_journal : (at : ℕ) (w : Live) (way : Way) → w.way ≡ Some way → undo_refusal at w ≡ None → stands_done way write_journal ≡ false
undo_before_journal at w way opens none =
    refuse_if-none (stands_done way write_journal) past_journal
    (or_else-none (refuse_if (stands_done way write_journal) past_journal) (refuse_if (not (eqb at way.done)) (stale way.done)) (sym (ap test opens) ∙ none)).0
  where
    test : Option Way → Option Refusal
    test o = option_map_or (λ v. or_else (refuse_if (stands_done v write_journal) past_journal) (refuse_if (not (eqb at v.done)) (stale v.done))) o (Some nothing_under_way)

way_keeps : (p : Plain) (event : Event) (w : Live) → Keeps (WayChange event w) p event w
way_keeps p event w = record {
  same = kept refl refl;
  switch = λ types begins none. begin_change event false (λ switched. types_and switched types) w begins (switch-none p types w none).0;
  reverse = λ types begins none. begin_change event true (λ switched. types_without switched types) w begins (reverse-none p types w none).0;
  steps = λ at way steps opens none. step_change p event w way opens steps;
  undoes = λ at way undoes opens none. undo_change event w way opens undoes (undo_before_journal at w way opens none);
  advances = λ adv workflow stream shard at at_most events rows live none given.
      let same = traffic-advanced p w stream shard at at_most events rows in kept (ap (λ t. t.1) same) (ap (λ t. t.0) same);
}

pub way_change : (p : Plain) (event : Event) (answer : Answer) (w : Live) → ((name : List ℕ) → same_text w.name name ≡ true → live_at p name ≡ Some w) → Answers p event answer → WayChange event w (live_next p event answer w)
way_change p event answer w live given = next_has (WayChange event w) p w live event answer (way_keeps p event w) given
