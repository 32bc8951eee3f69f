-- The entries of a step: what the topology says there before the step, what is recorded of it, and what is written.
use Rattle.std.proofs.Common.{◌≡◌, ◌≢◌, ℕ, ◌<◌, ◌≤◌, Bool, true, false, cond, eqb, List, [], ◌∷◌, filter, map, Some, refl, sym, ap, ◌∙◌, ⊎_elim, arith, eqb-true, ◌-◌}
use Rattle.mt_plain.proofs.PlaceLemmas.{step-first}
use Rattle.mt_laws.proofs.WayStepLemmas.{first_step-le, last-le}
use Rattle.std.proofs.lemmas.Bool.{false_from_ne_true}
use Rattle.std.proofs.lemmas.List.Elements.{recursion_from_All}
use Rattle.std.specs.Option.{option_map_or}
use Rattle.mt_names.specs.declared.types.TypeSet.{TypeSet}
use Rattle.mt_model.specs.declared.entries.Entry.{Entry}
use Rattle.mt_model.specs.declared.entries.EntryKey.{EntryKey}
use Rattle.mt_model.specs.Topology.{TopologyState, key_of, value_of}
use Rattle.mt_plain.specs.Events.{Way}
use Rattle.mt_plain.specs.Plain.{Live, Plain, before_way, behind_last, changes_primary, has_part, last_step, next_step, part_owner, refresh_source, refresh_target, repeated_step, stands_done, next_place}
use Rattle.mt_plain.specs.Serve.{serve, step_of_entry, types_by}
use Rattle.mt_laws.proofs.ListLemmas.{cond-either}
use Rattle.mt_stands.proofs.BeginLemmas.{serve_turned}
use Rattle.mt_stands.proofs.FieldLemmas.{entries_same, filter_same}
use Rattle.mt_workflow.proofs.MemberLemmas.{all_counted}
use Rattle.mt_stands.proofs.PartLemmas.{part_entry, serve_same}
use Rattle.mt_stands.proofs.StandLemmas.{same_part}
use Rattle.mt_stands.specs.Keys as live
use Rattle.mt_stands.specs.Topologies.{TopologyStands}
use Rattle.mt_stands.specs.Stands.{StandsFor}
use Rattle.mt_steps.proofs.EntryLemmas.{key_of-value_of, none_of_step}
use Rattle.mt_steps.specs.Entries.{is_of_step, recorded, recorded_of, step_entries}
use Rattle.mt_steps.proofs.PlanLemmas.{number-step_at}
use Rattle.mt_steps.specs.Plans.{number, step_at}
use Rattle.mt_workflow.specs.Workflows.{WorkflowState, keys_of_part, live_of, rules_only, wanted}
use Rattle.mt_refinement.proofs.KeepLemmas.{entry_step, filtered_same}
use Rattle.mt_stands.proofs.FeedLemmas.{same_key}
use Rattle.mt_refinement.proofs.PlaceLemmas.{repeated_either}
use Rattle.mt_laws.proofs.CopyLemmas.{none_kept}

-- ---- numbers

module _ (way : Way) (within : next_step way < behind_last way) where
  below_twelve : next_step way < 12
  below_twelve =
      let few : behind_last way ≤ 12 = cond-either (λ n. n ≤ 12) (changes_primary way) 12 1 (omega arith) (omega arith) in
      omega (arith, within, few)

  pub next_numbered : number (step_at (next_step way)) ≡ next_step way
  next_numbered = number-step_at (next_step way) below_twelve

  pub last_numbered : number (step_at (last_step way)) ≡ last_step way
  last_numbered = number-step_at (last_step way) (let le = last-le way in omega (arith, below_twelve, le))

-- where no place stands done it is the first one
pub none_last : (way : Way) → way.done ≡ 0 → last_step way ≡ 0
none_last way none =
    let first = first_step-le way in
    let is = step-first way (next_place way - 1) (omega (arith, first, none)) in
    omega (arith, first, none, is)

-- ---- what is recorded

-- the step that is repeated changes no entry
pub none_repeated : (w : WorkflowState) (types : TypeSet) (way : Way) (n : ℕ) → n ≡ repeated_step way → (es : List Entry) → recorded_of w n es ≡ step_entries w types n
none_repeated w types way n is es =
    none_kept (λ e. is_of_step w n (key_of e)) es (λ e. none (key_of e)) ∙ sym (ap (map (wanted w types)) (none_kept (is_of_step w n) (keys_of_part w) none))
  where
    none : (key : EntryKey) → is_of_step w n key ≡ false
    none key = ⊎_elim (by refresh_source (λ e. absurd cc) (λ e. absurd cc) (λ e. absurd cc) (λ e. absurd cc)) (by refresh_target (λ e. absurd cc) (λ e. absurd cc) (λ e. absurd cc) (λ e. absurd cc)) (repeated_either way)
      where
        by : (m : ℕ) → m ≢ 0 → m ≢ 1 → m ≢ 7 → m ≢ 9 → repeated_step way ≡ m → is_of_step w n key ≡ false
        by m a b c d e = none_of_step w n key (λ f. a (sym e ∙ sym is ∙ f)) (λ f. b (sym e ∙ sym is ∙ f)) (λ f. c (sym e ∙ sym is ∙ f)) (λ f. d (sym e ∙ sym is ∙ f))

module _ (w : WorkflowState) (n : ℕ) (t : TopologyState) where
  -- of the step itself what the topology says
  pub recorded_here : (es : List Entry) → recorded_of w n (recorded w n t es) ≡ map (value_of t) (filter (is_of_step w n) (map key_of es))
  recorded_here [] = refl
  recorded_here (e ∷ es) = by (recorded_here es) (is_of_step w n (key_of e)) refl
    where
      by : recorded_of w n (recorded w n t es) ≡ map (value_of t) (filter (is_of_step w n) (map key_of es)) → (b : Bool) → is_of_step w n (key_of e) ≡ b
          → recorded_of w n (recorded w n t (e ∷ es)) ≡ map (value_of t) (filter (is_of_step w n) (map key_of (e ∷ es)))
      by again true b =
          let rest = recorded_of w n (recorded w n t es) in
          let later = filter (is_of_step w n) (map key_of es) in
          ap (λ c. (λ (x : Entry). cond (is_of_step w n (key_of x)) (x ∷ rest) rest) (cond c (value_of t (key_of e)) e)) b
          ∙ ap (λ k. cond (is_of_step w n k) (value_of t (key_of e) ∷ rest) rest) (key_of-value_of t (key_of e))
          ∙ ap (λ c. cond c (value_of t (key_of e) ∷ rest) rest) b
          ∙ ap (λ l. value_of t (key_of e) ∷ l) again
          ∙ sym (ap (λ c. map (value_of t) (cond c (key_of e ∷ later) later)) b)
      by again false b =
          let rest = recorded_of w n (recorded w n t es) in
          let later = filter (is_of_step w n) (map key_of es) in
          ap (λ c. (λ (x : Entry). cond (is_of_step w n (key_of x)) (x ∷ rest) rest) (cond c (value_of t (key_of e)) e)) b
          ∙ ap (λ c. cond c (e ∷ rest) rest) b
          ∙ again
          ∙ sym (ap (λ c. map (value_of t) (cond c (key_of e ∷ later) later)) b)

  -- of another step what was recorded before
  pub recorded_elsewhere : (m : ℕ) → m ≢ n → (es : List Entry) → recorded_of w m (recorded w n t es) ≡ recorded_of w m es
  recorded_elsewhere m other [] = refl
  recorded_elsewhere m other (e ∷ es) = by (recorded_elsewhere m other es) (is_of_step w n (key_of e)) refl
    where
      by : recorded_of w m (recorded w n t es) ≡ recorded_of w m es → (b : Bool) → is_of_step w n (key_of e) ≡ b → recorded_of w m (recorded w n t (e ∷ es)) ≡ recorded_of w m (e ∷ es)
      by again true b =
          let rest = recorded_of w m (recorded w n t es) in
          let is : step_of_entry (live_of w) (key_of e) ≡ n = eqb-true (step_of_entry (live_of w) (key_of e)) n b in
          let differs : is_of_step w m (key_of e) ≡ false = false_from_ne_true (is_of_step w m (key_of e)) (λ h. other (sym (eqb-true (step_of_entry (live_of w) (key_of e)) m h) ∙ is)) in
          ap (λ c. (λ (x : Entry). cond (is_of_step w m (key_of x)) (x ∷ rest) rest) (cond c (value_of t (key_of e)) e)) b
          ∙ ap (λ k. cond (is_of_step w m k) (value_of t (key_of e) ∷ rest) rest) (key_of-value_of t (key_of e))
          ∙ ap (λ c. cond c (value_of t (key_of e) ∷ rest) rest) differs
          ∙ again
          ∙ sym (ap (λ c. cond c (e ∷ recorded_of w m es) (recorded_of w m es)) differs)
      by again false b =
          let rest = recorded_of w m (recorded w n t es) in
          ap (λ c. (λ (x : Entry). cond (is_of_step w m (key_of x)) (x ∷ rest) rest) (cond c (value_of t (key_of e)) e)) b
          ∙ ap (λ l. cond (is_of_step w m (key_of e)) (e ∷ l) l) again

-- ---- a workflow that stands for a live one

module _ (p : Plain) (w : WorkflowState) (v : Live) (for : StandsFor p v w) where
  pub before_same : before_way v ≡ before_way (live_of w)
  before_same =
      ap (λ o. option_map_or (λ (way : Way). way.before) o v.switched) (sym for.way)
      ∙ ap (λ types. option_map_or (λ (way : Way). way.before) w.way types) (sym for.switched)

  -- what it writes is what that one serves
  pub entries_joined : (types : TypeSet) (n : ℕ) → step_entries w types n ≡ live.step_entries w.kept v types n
  entries_joined types n =
      ap (map (wanted w types)) (filter_same (is_of_step w n) (λ key. eqb n (step_of_entry (live_of w) key)) (λ key. same_key (step_of_entry (live_of w) key) n) (keys_of_part w))
      ∙ entries_same (live_of w) v (sym for.sides.source) (sym for.sides.target) (sym for.sides.tables) for.switched for.way w.kept types n

  module _ (t : TopologyState) (stands : TopologyStands p t) (owned : (key : EntryKey) → has_part v key ≡ true → part_owner p key ≡ Some v) (way : Way) (opens : w.way ≡ Some way)
      (n : ℕ) (not_done : stands_done way n ≡ false) where
    -- an entry of a step that doesn't stand done has the value of the types before the way
    value_before : (key : EntryKey) → has_part (live_of w) key ≡ true → is_of_step w n key ≡ true → value_of t key ≡ wanted w way.before key
    value_before key part is =
        stands.served.entries key ∙ part_entry p t v stands owned key of_it
        ∙ ap (λ m. serve p.topology v (types_by v m) key) at
        ∙ ap (λ types. serve p.topology v types key) types
        ∙ sym (serve_same p.topology (rules_only w.kept) v way.before key (for.kept key of_it))
        ∙ serve_turned (rules_only w.kept) v (live_of w) way.before key for.sides.source for.sides.target
      where
        of_it : has_part v key ≡ true
        of_it = same_part v (live_of w) for.sides key ∙ part

        at : step_of_entry v key ≡ n
        at = entry_step v (live_of w) for.sides.source for.sides.target before_same key ∙ eqb-true (step_of_entry (live_of w) key) n is

        types : types_by v n ≡ way.before
        types =
            ap (λ o. option_map_or (λ (x : Way). cond (stands_done x n) x.after x.before) o v.switched) (sym for.way ∙ opens)
            ∙ ap (λ b. cond b way.after way.before) not_done

    -- so that is what is recorded of them
    pub recorded_before : (es : List Entry) → map key_of es ≡ keys_of_part w → recorded_of w n (recorded w n t es) ≡ step_entries w way.before n
    recorded_before es of =
        recorded_here w n t es ∙ ap (λ ks. map (value_of t) (filter (is_of_step w n) ks)) of
        ∙ filtered_same (value_of t) (wanted w way.before) (is_of_step w n) (λ key. has_part (live_of w) key ≡ true) value_before (keys_of_part w)
        (recursion_from_All (λ key. has_part (live_of w) key ≡ true) (keys_of_part w) (all_counted (live_of w)))
