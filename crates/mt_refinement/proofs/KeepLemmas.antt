-- What a step and an undo leave of a workflow: its name, its sides, its tables and what it keeps, and so its entries.
use Rattle.std.proofs.Common.{◌≡◌, ℕ, Bool, true, false, cond, eqb, List, [], ◌∷◌, filter, map, Option, refl, sym, ap, ◌∙◌, eqb-true}
use Rattle.std.proofs.lemmas.Bool.{eq-eqb}
use Rattle.std.specs.Cmp.{both_ways}
use Rattle.std.specs.List.{AllByRecursion}
use Rattle.mt_names.specs.declared.types.TypeSet.{TypeSet}
use Rattle.mt_names.specs.Names.{same_text}
use Rattle.mt_model.specs.declared.entries.Entry.{Entry}
use Rattle.mt_model.specs.declared.entries.EntryKey.{EntryKey}
use Rattle.mt_model.specs.declared.entries.EntryKey.TheVariants as about
use Rattle.mt_model.specs.Topology.{key_of}
use Rattle.mt_plain.specs.Events.{Way}
use Rattle.mt_plain.specs.Plain.{Live, allow_target, before_way, deny_source}
use Rattle.mt_plain.specs.Serve.{serve, step_of_entry}
use Rattle.mt_stands.proofs.BeginLemmas.{serve_turned}
use Rattle.mt_steps.specs.declared.step.Step.{Step}
use Rattle.mt_steps.specs.declared.step.Step.TheVariants.{SwitchReads, DenySource, RefreshSource, CatchUp, StopFeeding, CreateBack, Journal, AllowTarget, RefreshTarget, SwitchWriteRules, StartBack, FreezeOld}
use Rattle.mt_steps.specs.Entries.{is_of_step, recorded_of, step_entries, step_keys}
use Rattle.mt_steps.specs.Streams.{streams_undone, with_streams, workflow_stepped, workflow_undone}
use Rattle.mt_stream.specs.Streams.{StreamValue}
use Rattle.mt_workflow.specs.Workflows.{LaneState, WorkflowState, keys_of_part, live_of, rules_only, wanted}
use Rattle.mt_stands.proofs.FieldLemmas.{filter_same, map_same}
use Rattle.mt_stands.proofs.FeedLemmas.{same_key}

-- ---- lists

-- of those alone that pass a test
pub filtered_same : {A B : Type 0} (f g : A → B) (test : A → Bool) (P : A → Type 0) → ((x : A) → P x → test x ≡ true → f x ≡ g x) → (xs : List A) → AllByRecursion P xs
    → map f (filter test xs) ≡ map g (filter test xs)
filtered_same f g test P same [] all = refl
filtered_same {A} {B} f g test P same (x ∷ xs) all = by (filtered_same f g test P same xs all.1) (test x) refl
  where
    by : map f (filter test xs) ≡ map g (filter test xs) → (t : Bool) → test x ≡ t
        → map f (cond (test x) (x ∷ filter test xs) (filter test xs)) ≡ map g (cond (test x) (x ∷ filter test xs) (filter test xs))
    by again true t =
        ap (λ b. map f (cond b (x ∷ filter test xs) (filter test xs))) t ∙ ap (λ y. y ∷ map f (filter test xs)) (same x all.0 t) ∙ ap (λ l. g x ∷ l) again
        ∙ sym (ap (λ b. map g (cond b (x ∷ filter test xs) (filter test xs))) t)
    by again false t =
        ap (λ b. map f (cond b (x ∷ filter test xs) (filter test xs))) t ∙ again
        ∙ sym (ap (λ b. map g (cond b (x ∷ filter test xs) (filter test xs))) t)

-- ---- what stays of a workflow

pub record Keeps (w v : WorkflowState) : Type 0 where
  pub name : v.name ≡ w.name
  pub source : v.source ≡ w.source
  pub target : v.target ≡ w.target
  pub tables : v.tables ≡ w.tables
  pub kept : v.kept ≡ w.kept

keeps_itself : (w : WorkflowState) → Keeps w w
keeps_itself w = record { name = refl; source = refl; target = refl; tables = refl; kept = refl }

lanes_keep : (w : WorkflowState) (lanes : List LaneState) → Keeps w (record w { lanes = lanes })
lanes_keep w lanes = record { name = refl; source = refl; target = refl; tables = refl; kept = refl }

frozen_keep : (w : WorkflowState) (a b : List LaneState) (backward : Bool) → Keeps w (cond backward (record w { lanes = a }) (record w { lanes = b }))
frozen_keep w a b true = lanes_keep w a
frozen_keep w a b false = lanes_keep w b

streams_keep : (w : WorkflowState) (way : Way) (step : Step) (ends : List ℕ) → Keeps w (with_streams w way step ends)
streams_keep w way SwitchReads ends = keeps_itself w
streams_keep w way DenySource ends = keeps_itself w
streams_keep w way RefreshSource ends = keeps_itself w
streams_keep w way CatchUp ends = keeps_itself w
streams_keep w way StopFeeding ends = lanes_keep w _
streams_keep w way CreateBack ends = lanes_keep w _
streams_keep w way Journal ends = keeps_itself w
streams_keep w way AllowTarget ends = keeps_itself w
streams_keep w way RefreshTarget ends = keeps_itself w
streams_keep w way SwitchWriteRules ends = keeps_itself w
streams_keep w way StartBack ends = lanes_keep w _
streams_keep w way FreezeOld ends = frozen_keep w _ _ way.back

undone_keep : (w : WorkflowState) (way : Way) (step : Step) (kept : List (Option StreamValue)) → Keeps w (streams_undone w way step kept)
undone_keep w way SwitchReads kept = keeps_itself w
undone_keep w way DenySource kept = keeps_itself w
undone_keep w way RefreshSource kept = keeps_itself w
undone_keep w way CatchUp kept = keeps_itself w
undone_keep w way StopFeeding kept = lanes_keep w _
undone_keep w way CreateBack kept = lanes_keep w _
undone_keep w way Journal kept = keeps_itself w
undone_keep w way AllowTarget kept = keeps_itself w
undone_keep w way RefreshTarget kept = keeps_itself w
undone_keep w way SwitchWriteRules kept = keeps_itself w
undone_keep w way StartBack kept = keeps_itself w
undone_keep w way FreezeOld kept = keeps_itself w

pub step_keeps : (w : WorkflowState) (way : Way) (step : Step) (ends : List ℕ) → Keeps w (workflow_stepped w way step ends)
step_keeps w way step ends =
    let k = streams_keep w way step ends in
    record { name = k.name; source = k.source; target = k.target; tables = k.tables; kept = k.kept }

pub undo_keeps : (w : WorkflowState) (way : Way) (step : Step) (kept : List (Option StreamValue)) → Keeps w (workflow_undone w way step kept)
undo_keeps w way step kept =
    let k = undone_keep w way step kept in
    record { name = k.name; source = k.source; target = k.target; tables = k.tables; kept = k.kept }

-- ---- its entries

-- the step of an entry hangs on the sides and on the types before the way
pub entry_step : (v w : Live) → v.source ≡ w.source → v.target ≡ w.target → before_way v ≡ before_way w → (key : EntryKey) → step_of_entry v key ≡ step_of_entry w key
entry_step v w source target before (about.Rule key) = refl
entry_step v w source target before (about.Denied k n) =
    ap (λ (t : TypeSet). cond (same_text (cond t.primary v.target v.source) k) deny_source allow_target) before
    ∙ ap (λ x. cond (same_text (cond (before_way w).primary x v.source) k) deny_source allow_target) target
    ∙ ap (λ x. cond (same_text (cond (before_way w).primary w.target x) k) deny_source allow_target) source
entry_step v w source target before (about.Present k n) = refl

module _ (w v : WorkflowState) (keeps : Keeps w v) where
  pub part_keeps : keys_of_part v ≡ keys_of_part w
  part_keeps = let (s, t, n) : (v.source ≡ w.source) × (v.target ≡ w.target) × (v.tables ≡ w.tables) = (keeps.source, keeps.target, keeps.tables) in rw (s, t, n) refl

  wanted_keeps : (types : TypeSet) (key : EntryKey) → wanted v types key ≡ wanted w types key
  wanted_keeps types key =
      ap (λ kept. serve (rules_only kept) (live_of v) types key) keeps.kept
      ∙ serve_turned (rules_only w.kept) (live_of v) (live_of w) types key keeps.source keeps.target

  module _ (before : before_way (live_of v) ≡ before_way (live_of w)) where
    of_step_keeps : (n : ℕ) (key : EntryKey) → is_of_step v n key ≡ is_of_step w n key
    of_step_keeps n key = ap (λ m. eqb m n) (entry_step (live_of v) (live_of w) keeps.source keeps.target before key)

    pub recorded_keeps : (n : ℕ) (entries : List Entry) → recorded_of v n entries ≡ recorded_of w n entries
    recorded_keeps n entries = filter_same (λ e. is_of_step v n (key_of e)) (λ e. is_of_step w n (key_of e)) (λ e. of_step_keeps n (key_of e)) entries

    pub entries_keep : (types : TypeSet) (n : ℕ) → step_entries v types n ≡ step_entries w types n
    entries_keep types n =
        map_same (wanted v types) (wanted w types) (wanted_keeps types) (step_keys v n)
        ∙ ap (map (wanted w types)) (filter_same (is_of_step v n) (is_of_step w n) (of_step_keeps n) (keys_of_part v) ∙ ap (filter (is_of_step w n)) part_keeps)
