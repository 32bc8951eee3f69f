-- What each event keeps of a live workflow, by the cases that change it.
use Rattle.std.proofs.Common.{◌≡◌, ℕ, Bool, true, false, cond, List, Option, None, Some, refl, sym, ap, ◌∙◌}
use Rattle.std.specs.Option.{option_map_or}
use Rattle.mt_names.specs.declared.types.TypeSet.{TypeSet}
use Rattle.mt_names.specs.Names.{same_text}
use Rattle.mt_plain.specs.Answers.{Answers}
use Rattle.mt_plain.specs.Events.{Event, advance, begin_switch, begin_reverse, step, undo, Refusal, StreamName, Answer, done, row, advanced, shown, refused, Way}
use Rattle.mt_plain.specs.Next.{live_stepped, live_undone, on_way_of, types_and, types_without, with_way_to}
use Rattle.mt_plain.specs.Plain.{Live, Plain, live_at}
use Rattle.mt_plain.specs.Refuse.{advance_refusal, begin_reverse_refusal, begin_switch_refusal, in_workflow, refusal_of, step_refusal, undo_refusal}
use Rattle.mt_plain.specs.Slots.{live_advanced}
use Rattle.mt_laws.specs.Changes.{BeginsWay, IsAdvance, IsStep}
use Rattle.mt_laws.specs.Copies.{Undoes}
use Rattle.mt_laws.proofs.ChangeLemmas.{live_next, live_taken}
use Rattle.mt_laws.proofs.LiveLemmas.{changed}

-- what holds of a workflow holds of it after each event on it that is taken
pub record Keeps (P : Live → Type 0) (p : Plain) (event : Event) (w : Live) : Type 0 where
  pub same : P w
  pub switch : (types : TypeSet) → BeginsWay event → begin_switch_refusal p types w ≡ None → P (with_way_to false (λ switched. types_and switched types) w)
  pub reverse : (types : TypeSet) → BeginsWay event → begin_reverse_refusal p types w ≡ None → P (with_way_to true (λ switched. types_without switched types) w)
  pub steps : (at : ℕ) (way : Way) → IsStep event → w.way ≡ Some way → step_refusal p at w ≡ None → P (live_stepped p w way)
  pub undoes : (at : ℕ) (way : Way) → Undoes event → w.way ≡ Some way → undo_refusal at w ≡ None → P (live_undone w way)
  pub advances : IsAdvance event → (workflow : List ℕ) (stream : StreamName) (shard at at_most events rows : ℕ) → live_at p workflow ≡ Some w → advance_refusal p stream shard at at_most w ≡ None
      → Answers p (advance workflow stream shard at at_most) (advanced events rows) → P (live_advanced p w stream shard at at_most events rows)

pub changed_has : (P : Live → Type 0) (change : Live → Live) (name : List ℕ) (w : Live) → P w → (same_text w.name name ≡ true → P (change w)) → P (changed change name w)
changed_has P change name w holds here = by (same_text w.name name) refl
  where
    by : (t : Bool) → same_text w.name name ≡ t → P (cond t (change w) w)
    by true t = here t
    by false t = holds

pub on_way_has : (P : Live → Type 0) (w : Live) (change : Way → Live) → P w → ((way : Way) → w.way ≡ Some way → P (change way)) → (o : Option Way) → w.way ≡ o → P (option_map_or change o w)
on_way_has P w change holds each None is = holds
on_way_has P w change holds each (Some way) is = each way is

-- the refusal of an event on the workflow of a name, at that workflow
pub at_it : (p : Plain) (name : List ℕ) (w : Live) (refusal : Live → Option Refusal) → live_at p name ≡ Some w → in_workflow (live_at p name) refusal ≡ None → refusal w ≡ None
at_it p name w refusal live none = sym (ap (λ o. in_workflow o refusal) live) ∙ none

module _ (P : Live → Type 0) (p : Plain) (w : Live) (live : (name : List ℕ) → same_text w.name name ≡ true → live_at p name ≡ Some w) where
  taken_has : (event : Event) → Keeps P p event w → refusal_of p event ≡ None → P (live_taken p event w)
  taken_has (begin_switch workflow types) keeps none =
      changed_has P (with_way_to false (λ switched. types_and switched types)) workflow w keeps.same
      (λ here. keeps.switch types tt (at_it p workflow w (begin_switch_refusal p types) (live workflow here) none))
  taken_has (begin_reverse workflow types) keeps none =
      changed_has P (with_way_to true (λ switched. types_without switched types)) workflow w keeps.same
      (λ here. keeps.reverse types tt (at_it p workflow w (begin_reverse_refusal p types) (live workflow here) none))
  taken_has (step workflow at) keeps none =
      changed_has P (λ v. on_way_of (live_stepped p v) v) workflow w keeps.same
      (λ here. on_way_has P w (live_stepped p w) keeps.same (λ way opens. keeps.steps at way tt opens (at_it p workflow w (step_refusal p at) (live workflow here) none)) w.way refl)
  taken_has (undo workflow at) keeps none =
      changed_has P (λ v. on_way_of (live_undone v) v) workflow w keeps.same
      (λ here. on_way_has P w (live_undone w) keeps.same (λ way opens. keeps.undoes at way tt opens (at_it p workflow w (undo_refusal at) (live workflow here) none)) w.way refl)
  taken_has event keeps none = keeps.same

  pub next_has : (event : Event) (answer : Answer) → Keeps P p event w → Answers p event answer → P (live_next p event answer w)
  next_has event done keeps given = taken_has event keeps given.0
  next_has event (row r) keeps given = taken_has event keeps given.0
  next_has (advance workflow stream shard at at_most) (advanced events rows) keeps given =
      changed_has P (λ v. live_advanced p v stream shard at at_most events rows) workflow w keeps.same
      (λ here. keeps.advances tt workflow stream shard at at_most events rows (live workflow here) (at_it p workflow w (advance_refusal p stream shard at at_most) (live workflow here) given.0) given)
  next_has event (advanced events rows) keeps given = keeps.same
  next_has event (shown s) keeps given = keeps.same
  next_has event (refused refusal) keeps given = keeps.same
