-- What is written back is what stood before the step, whatever else was written in between.
use Rattle.std.proofs.Common.{◌≡◌, ◌≢◌, ℕ, zero, suc, Bool, true, false, if◌then◌else◌, List, [], ◌∷◌, map, filter, slice_get, Some, ◌⊎◌, inl, inr, refl, sym, ap, subst, ◌∙◌}
use Rattle.std.proofs.lemmas.Bool.{true≢false}
use Rattle.std.proofs.lemmas.List.{length-map}
use Rattle.std.proofs.lemmas.List.Elements.{recursion_from_All}
use Rattle.std.specs.List.{AllByRecursion}
use Rattle.mt_names.specs.declared.types.TypeSet.{TypeSet}
use Rattle.mt_names.specs.Names.{same_text}
use Rattle.mt_names.specs.Same.{same_key}
use Rattle.mt_names.proofs.SameLemmas.{same_key_decides, same_text_decides}
use Rattle.mt_model.specs.declared.entries.Entry.{Entry}
use Rattle.mt_model.specs.declared.entries.EntryKey.{EntryKey}
use Rattle.mt_model.specs.declared.entries.EntryKey.TheVariants as about
use Rattle.mt_model.specs.Part.{with_entries}
use Rattle.mt_model.specs.Topology.{TopologyState, has_place, key_of, value_of, with_entry}
use Rattle.mt_model.proofs.PlaceLemmas.{has_place-written}
use Rattle.mt_model.proofs.TopologyLemmas.{value_of-written_elsewhere, value_of-written_here}
use Rattle.mt_workflow.specs.Workflows.{WorkflowState, keys_of_part, wanted}
use Rattle.mt_steps.specs.Entries.{HasPlaces, is_of_step, recorded, recorded_entry, recorded_of, step_entries, step_keys}
use Rattle.mt_steps.specs.Undo.{IsLogOf, new_log}
use Rattle.mt_steps.proofs.EntryLemmas.{key_of-value_of, key_of-wanted}

-- ---- keys

-- two texts are one, or two
texts : (a b : List ℕ) → (a ≡ b) ⊎ (a ≢ b)
texts a b = by (same_text a b) refl
  where
    by : (t : Bool) → same_text a b ≡ t → (a ≡ b) ⊎ (a ≢ b)
    by true t = inl ((same_text_decides a b).0 t)
    by false t = inr (λ e. true≢false (sym ((same_text_decides a b).1 e) ∙ t))

-- two keys are one, or two
pub keys : (a b : EntryKey) → (a ≡ b) ⊎ (a ≢ b)
keys (about.Rule a) (about.Rule b) = by (same_key a b) refl
  where
    by : (t : Bool) → same_key a b ≡ t → (about.Rule a ≡ about.Rule b) ⊎ (about.Rule a ≢ about.Rule b)
    by true t = inl (ap about.Rule ((same_key_decides a b).0 t))
    by false t = inr (λ e. let same : a ≡ b = cc in true≢false (sym ((same_key_decides a b).1 same) ∙ t))
keys (about.Denied k t) (about.Denied l u) = by (texts k l) (texts t u)
  where
    by : (k ≡ l) ⊎ (k ≢ l) → (t ≡ u) ⊎ (t ≢ u) → (about.Denied k t ≡ about.Denied l u) ⊎ (about.Denied k t ≢ about.Denied l u)
    by (inl a) (inl b) = inl (ap (λ x. about.Denied x t) a ∙ ap (about.Denied l) b)
    by (inl a) (inr b) = inr (λ e. let same : t ≡ u = cc in b same)
    by (inr a) b = inr (λ e. let same : k ≡ l = cc in a same)
keys (about.Present k t) (about.Present l u) = by (texts k l) (texts t u)
  where
    by : (k ≡ l) ⊎ (k ≢ l) → (t ≡ u) ⊎ (t ≢ u) → (about.Present k t ≡ about.Present l u) ⊎ (about.Present k t ≢ about.Present l u)
    by (inl a) (inl b) = inl (ap (λ x. about.Present x t) a ∙ ap (about.Present l) b)
    by (inl a) (inr b) = inr (λ e. let same : t ≡ u = cc in b same)
    by (inr a) b = inr (λ e. let same : k ≡ l = cc in a same)
keys (about.Rule a) (about.Denied l u) = inr (λ e. absurd cc)
keys (about.Rule a) (about.Present l u) = inr (λ e. absurd cc)
keys (about.Denied k t) (about.Rule b) = inr (λ e. absurd cc)
keys (about.Denied k t) (about.Present l u) = inr (λ e. absurd cc)
keys (about.Present k t) (about.Rule b) = inr (λ e. absurd cc)
keys (about.Present k t) (about.Denied l u) = inr (λ e. absurd cc)

-- a key stands among some
IsAt : List EntryKey → EntryKey → Type 0
IsAt ks key = (i : ℕ) × (slice_get ks i ≡ Some key)

among : (ks : List EntryKey) (key : EntryKey) → IsAt ks key ⊎ AllByRecursion (λ k. k ≢ key) ks
unfolding IsAt
among [] key = inr tt
among (k ∷ ks) key = by (keys k key) (among ks key)
  where
    by : (k ≡ key) ⊎ (k ≢ key) → IsAt ks key ⊎ AllByRecursion (λ x. x ≢ key) ks → IsAt (k ∷ ks) key ⊎ AllByRecursion (λ x. x ≢ key) (k ∷ ks)
    by (inl same) rest = inl (zero, ap Some same)
    by (inr differ) (inl there) = inl (suc there.0, there.1)
    by (inr differ) (inr others) = inr (differ, others)

-- ---- several writes

-- of a key that none of them is about
pub others_stay : (t : TopologyState) (es : List Entry) (key : EntryKey) → AllByRecursion (λ k. k ≢ key) (map key_of es) → value_of (with_entries t es) key ≡ value_of t key
others_stay t [] key differ = refl
others_stay t (e ∷ es) key differ = others_stay (with_entry t e) es key differ.1 ∙ value_of-written_elsewhere t e key differ.0

-- each says what a topology said
AreSaid : TopologyState → List Entry → Type 0
AreSaid t es = AllByRecursion (λ e. e ≡ value_of t (key_of e)) es

Placed : TopologyState → List EntryKey → Type 0
Placed t ks = AllByRecursion (λ k. has_place t k ≡ true) ks

still_placed : (t : TopologyState) (e : Entry) (ks : List EntryKey) → Placed t ks → Placed (with_entry t e) ks
unfolding Placed
still_placed t e [] placed = tt
still_placed t e (k ∷ ks) placed = (has_place-written t e k ∙ placed.0, still_placed t e ks placed.1)

-- once a key says so, it goes on to
stays_said : (t now : TopologyState) (es : List Entry) (key : EntryKey) → AreSaid t es → Placed now (map key_of es) → value_of now key ≡ value_of t key → value_of (with_entries now es) key ≡ value_of t key
unfolding AreSaid Placed
stays_said t now [] key said placed is = is
stays_said t now (e ∷ es) key said placed is = stays_said t (with_entry now e) es key said.1 (still_placed now e (map key_of es) placed.1) (by (keys (key_of e) key))
  where
    by : (key_of e ≡ key) ⊎ (key_of e ≢ key) → value_of (with_entry now e) key ≡ value_of t key
    by (inl same) = subst (λ k. value_of (with_entry now e) k ≡ value_of t k) same (value_of-written_here now e placed.0 ∙ said.0)
    by (inr differ) = value_of-written_elsewhere now e key differ ∙ is

-- a key that one of them is about says so
are_said : (t now : TopologyState) (es : List Entry) (key : EntryKey) (i : ℕ) → AreSaid t es → Placed now (map key_of es) → slice_get (map key_of es) i ≡ Some key → value_of (with_entries now es) key ≡ value_of t key
unfolding AreSaid Placed
are_said t now [] key i said placed at = absurd cc
are_said t now (e ∷ es) key zero said placed at =
    let same : key_of e ≡ key = cc in
    stays_said t (with_entry now e) es key said.1 (still_placed now e (map key_of es) placed.1)
    (subst (λ k. value_of (with_entry now e) k ≡ value_of t k) same (value_of-written_here now e placed.0 ∙ said.0))
are_said t now (e ∷ es) key (suc i) said placed at = are_said t (with_entry now e) es key i said.1 (still_placed now e (map key_of es) placed.1) at

-- ---- the record of a step

-- what is recorded says what the topology said
recorded_said : (w : WorkflowState) (n : ℕ) (t : TopologyState) (entries : List Entry) → AreSaid t (recorded_of w n (recorded w n t entries))
unfolding AreSaid
recorded_said w n t [] = tt
recorded_said w n t (e ∷ entries) = by (recorded_said w n t entries) (is_of_step w n (key_of e)) refl
  where
    by : AreSaid t (recorded_of w n (recorded w n t entries)) → (b : Bool) → is_of_step w n (key_of e) ≡ b → AreSaid t (recorded_of w n (recorded w n t (e ∷ entries)))
    by again true b =
        let rest : List Entry = recorded_of w n (recorded w n t entries) in
        let is : recorded_entry w n t e ≡ value_of t (key_of e) = rw b refl in
        let said : AllByRecursion (λ x. x ≡ value_of t (key_of x)) (if is_of_step w n (key_of (value_of t (key_of e))) then value_of t (key_of e) ∷ rest else rest) = rw (key_of-value_of t (key_of e), b) (ap (value_of t) (sym (key_of-value_of t (key_of e))), again) in
        subst (λ x. AllByRecursion (λ y. y ≡ value_of t (key_of y)) (if is_of_step w n (key_of x) then x ∷ rest else rest)) (sym is) said
    by again false b = rw (b, b) again

-- and is about the keys of the step
recorded_keys : (w : WorkflowState) (n : ℕ) (t : TopologyState) (entries : List Entry) → map key_of (recorded_of w n (recorded w n t entries)) ≡ filter (is_of_step w n) (map key_of entries)
recorded_keys w n t [] = refl
recorded_keys w n t (e ∷ entries) = by (recorded_keys w n t entries) (is_of_step w n (key_of e)) refl
  where
    by : map key_of (recorded_of w n (recorded w n t entries)) ≡ filter (is_of_step w n) (map key_of entries) → (b : Bool) → is_of_step w n (key_of e) ≡ b
        → map key_of (recorded_of w n (recorded w n t (e ∷ entries))) ≡ filter (is_of_step w n) (map key_of (e ∷ entries))
    by again true b = rw (b, key_of-value_of t (key_of e), b, key_of-value_of t (key_of e), again) refl
    by again false b = rw (b, b) again

placed_of_step : (w : WorkflowState) (n : ℕ) (t : TopologyState) (ks : List EntryKey) → Placed t ks → Placed t (filter (is_of_step w n) ks)
unfolding Placed
placed_of_step w n t [] placed = tt
placed_of_step w n t (k ∷ ks) placed = by (placed_of_step w n t ks placed.1) (is_of_step w n k) refl
  where
    by : Placed t (filter (is_of_step w n) ks) → (b : Bool) → is_of_step w n k ≡ b → Placed t (filter (is_of_step w n) (k ∷ ks))
    by again true b = rw b (placed.0, again)
    by again false b = rw b again

keys_wanted : (w : WorkflowState) (types : TypeSet) (ks : List EntryKey) → map key_of (map (wanted w types) ks) ≡ ks
keys_wanted w types [] = refl
keys_wanted w types (k ∷ ks) = rw (key_of-wanted w types k, keys_wanted w types ks) refl

-- ---- the laws

module _ (w : WorkflowState) (n : ℕ) (t : TopologyState) (entries : List Entry) (of : map key_of entries ≡ keys_of_part w) where
  abbrev back : List Entry
  back = recorded_of w n (recorded w n t entries)

  keys_back : map key_of back ≡ step_keys w n
  keys_back = recorded_keys w n t entries ∙ ap (filter (is_of_step w n)) of

  pub undone_at : (now : TopologyState) → HasPlaces now w → (key : EntryKey) (i : ℕ) → slice_get (step_keys w n) i ≡ Some key → value_of (with_entries now back) key ≡ value_of t key
  unfolding Placed
  undone_at now places key i at =
      are_said t now back key i (recorded_said w n t entries)
      (subst (Placed now) (sym keys_back) (placed_of_step w n now (keys_of_part w) (recursion_from_All (λ k. has_place now k ≡ true) (keys_of_part w) places)))
      (ap (λ ks. slice_get ks i) keys_back ∙ at)

  pub not_undone : (now : TopologyState) (key : EntryKey) → AllByRecursion (λ k. k ≢ key) (step_keys w n) → value_of (with_entries now back) key ≡ value_of now key
  not_undone now key differ = others_stay now back key (subst (AllByRecursion (λ k. k ≢ key)) (sym keys_back) differ)

pub not_written : (w : WorkflowState) (types : TypeSet) (n : ℕ) (t : TopologyState) (key : EntryKey) → AllByRecursion (λ k. k ≢ key) (step_keys w n) → value_of (with_entries t (step_entries w types n)) key ≡ value_of t key
not_written w types n t key differ = others_stay t (step_entries w types n) key (subst (AllByRecursion (λ k. k ≢ key)) (sym (keys_wanted w types (step_keys w n))) differ)

pub places_stay : (t : TopologyState) (es : List Entry) (key : EntryKey) → has_place (with_entries t es) key ≡ has_place t key
places_stay t [] key = refl
places_stay t (e ∷ es) key = places_stay (with_entry t e) es key ∙ has_place-written t e key

pub part_places_stay : (t : TopologyState) (w : WorkflowState) (es : List Entry) → HasPlaces t w → HasPlaces (with_entries t es) w
part_places_stay t w es places = λ i d inside. places_stay t es _ ∙ places i d inside

pub undone_at_once : (t : TopologyState) (w : WorkflowState) (types : TypeSet) (n : ℕ) (entries : List Entry) → map key_of entries ≡ keys_of_part w → HasPlaces t w → (key : EntryKey)
    → value_of (with_entries (with_entries t (step_entries w types n)) (recorded_of w n (recorded w n t entries))) key ≡ value_of t key
unfolding IsAt
undone_at_once t w types n entries of places key = by (among (step_keys w n) key)
  where
    by : IsAt (step_keys w n) key ⊎ AllByRecursion (λ k. k ≢ key) (step_keys w n) → value_of (with_entries (with_entries t (step_entries w types n)) (recorded_of w n (recorded w n t entries))) key ≡ value_of t key
    by (inl there) = undone_at w n t entries of (with_entries t (step_entries w types n)) (part_places_stay t w (step_entries w types n) places) key there.0 there.1
    by (inr differ) = not_undone w n t entries of (with_entries t (step_entries w types n)) key differ ∙ not_written w types n t key differ

-- ---- the record is the workflow's

pub new_log_of : (w : WorkflowState) → IsLogOf w (new_log w)
new_log_of w = record { entries = keys_wanted w w.switched (keys_of_part w); listed = length-map w.lanes _; slots = length-map w.lanes _ }
