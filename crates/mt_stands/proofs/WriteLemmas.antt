-- What entries written over a list of keys leave.
use Rattle.std.proofs.Common.{◌≡◌, ℕ, Bool, true, false, cond, ◌||◌, List, [], ◌∷◌, map, is_some, refl, sym, ap, ◌∙◌}
use Rattle.std.proofs.lemmas.Bool.{or_left, or_right}
use Rattle.mt_names.proofs.EntryLemmas.{other_from}
use Rattle.mt_model.specs.declared.entries.Entry.{Entry}
use Rattle.mt_model.specs.declared.entries.Entry.TheVariants as entry
use Rattle.mt_model.specs.declared.entries.EntryKey.{EntryKey}
use Rattle.mt_model.specs.Part.{with_entries}
use Rattle.mt_model.specs.Topology.{HasDistinctPlaces, TopologyState, cuts_at, has_place, key_of, keyspace_at, value_of, with_denied_mark, with_entry, with_table_mark}
use Rattle.mt_model.proofs.DistinctLemmas.{distinct-with_entry}
use Rattle.mt_model.proofs.PlaceLemmas.{fold-keeps, fold-unchanged, has_place-written, keyspace_at-stays}
use Rattle.mt_model.proofs.TopologyLemmas.{read_at-unchanged, value_of-written_elsewhere, value_of-written_here}
use Rattle.mt_stands.specs.Keys.{lists, same_about}
use Rattle.mt_model.proofs.AboutLemmas.{same_about_decides}

pub places_written : (t : TopologyState) (entries : List Entry) (key : EntryKey) → has_place (with_entries t entries) key ≡ has_place t key
places_written t entries key = fold-unchanged with_entry (λ u. has_place u key) (λ u e. has_place-written u e key) t entries

pub distinct_written : (t : TopologyState) (entries : List Entry) → HasDistinctPlaces t → HasDistinctPlaces (with_entries t entries)
distinct_written t entries distinct = fold-keeps with_entry HasDistinctPlaces (λ u e. distinct-with_entry u e) t entries distinct

keyspace_written : (t : TopologyState) (e : Entry) (name : List ℕ) → is_some (keyspace_at (with_entry t e).keyspaces name) ≡ is_some (keyspace_at t.keyspaces name)
keyspace_written t (entry.Rule key target) name = refl
keyspace_written t (entry.Denied keyspace table mark) name = keyspace_at-stays (with_denied_mark table mark) t.keyspaces keyspace name
keyspace_written t (entry.Present keyspace table mark) name = keyspace_at-stays (with_table_mark table mark) t.keyspaces keyspace name

pub keyspaces_written : (t : TopologyState) (entries : List Entry) (name : List ℕ) → is_some (keyspace_at (with_entries t entries).keyspaces name) ≡ is_some (keyspace_at t.keyspaces name)
keyspaces_written t entries name = fold-unchanged with_entry (λ u. is_some (keyspace_at u.keyspaces name)) (λ u e. keyspace_written u e name) t entries

cuts_of_one : (t : TopologyState) (e : Entry) (name : List ℕ) → cuts_at (with_entry t e).keyspaces name ≡ cuts_at t.keyspaces name
cuts_of_one t (entry.Rule key target) name = refl
cuts_of_one t (entry.Denied keyspace table mark) name = read_at-unchanged (λ s. s.cuts) [] (with_denied_mark table mark) t.keyspaces keyspace name (λ state found is. refl)
cuts_of_one t (entry.Present keyspace table mark) name = read_at-unchanged (λ s. s.cuts) [] (with_table_mark table mark) t.keyspaces keyspace name (λ state found is. refl)

pub cuts_written : (t : TopologyState) (entries : List Entry) (name : List ℕ) → cuts_at (with_entries t entries).keyspaces name ≡ cuts_at t.keyspaces name
cuts_written t entries name = fold-unchanged with_entry (λ u. cuts_at u.keyspaces name) (λ u e. cuts_of_one u e name) t entries

-- ---- values

pub merged : {A : Type 0} (a b : Bool) (x y : A) → cond b x (cond a x y) ≡ cond (a || b) x y
merged true true x y = refl
merged true false x y = refl
merged false b x y = refl

module _ (f : EntryKey → Entry) (keyed : (key : EntryKey) → key_of (f key) ≡ key) where
  one_written : (t : TopologyState) (k key : EntryKey) → has_place t k ≡ true → value_of (with_entry t (f k)) key ≡ cond (same_about k key) (f key) (value_of t key)
  one_written t k key place = by (same_about k key) refl
    where
      by : (b : Bool) → same_about k key ≡ b → value_of (with_entry t (f k)) key ≡ cond b (f key) (value_of t key)
      by true b =
          let is : k ≡ key = (same_about_decides k key).0 b in
          ap (value_of (with_entry t (f k))) (sym is ∙ sym (keyed k))
          ∙ value_of-written_here t (f k) (ap (has_place t) (keyed k) ∙ place) ∙ ap f is
      by false b =
          let other = other_from same_about same_about_decides k key b in
          value_of-written_elsewhere t (f k) key (λ e. other (sym (keyed k) ∙ e))

  pub values_written : (t : TopologyState) (keys : List EntryKey) (key : EntryKey) → ((k : EntryKey) → lists keys k ≡ true → has_place t k ≡ true)
      → value_of (with_entries t (map f keys)) key ≡ cond (lists keys key) (f key) (value_of t key)
  values_written t [] key places = refl
  values_written t (k ∷ keys) key places =
      values_written (with_entry t (f k)) keys key (λ j is. has_place-written t (f k) j ∙ places j (or_right (same_about k j) (lists keys j) is))
      ∙ ap (λ v. cond (lists keys key) (f key) v) (one_written t k key (places k (or_left (same_about k k) (lists keys k) ((same_about_decides k k).1 refl))))
      ∙ merged (same_about k key) (lists keys key) (f key) (value_of t key)
