-- Entries recorded, written and written back.
use Rattle.std.proofs.Common.{◌≡◌, ◌≢◌, ◌==◌, ℕ, Bool, true, false, if◌then◌else◌, List, [], ◌∷◌, map, filter, fold, Option, None, Some, refl, sym, ap, ◌∙◌, arith}
use Rattle.std.proofs.lemmas.Bool.Decides.{nat_tests}
use Rattle.mt_model.proofs.TopologyLemmas.{value_of-written_elsewhere}
use Rattle.mt_names.specs.declared.types.TabletType.{TabletType}
use Rattle.mt_names.specs.declared.types.TabletType.TheVariants.{Primary, Replica, Rdonly}
use Rattle.mt_names.specs.declared.types.TypeSet.{TypeSet}
use Rattle.mt_model.specs.declared.entries.Entry.{Entry}
use Rattle.mt_model.specs.declared.entries.EntryKey.{EntryKey}
use Rattle.mt_model.specs.declared.entries.EntryKey.TheVariants as about
use Rattle.mt_model.specs.Part.{with_entries}
use Rattle.mt_model.specs.Topology.{TopologyState, key_of, value_of, with_entry}
use Rattle.mt_plain.specs.Plain.{allow_target, deny_source}
use Rattle.mt_plain.specs.Serve.{owned_before, rule_step}
use Rattle.mt_workflow.specs.Workflows.{WorkflowState, live_of, wanted}
use Rattle.mt_steps.specs.Entries.{is_of_step, recorded, recorded_entry, recorded_of, swept, with_recorded, with_wanted}

-- ---- keys

pub key_of-value_of : (t : TopologyState) (key : EntryKey) → key_of (value_of t key) ≡ key
key_of-value_of t (about.Rule key) = refl
key_of-value_of t (about.Denied keyspace table) = refl
key_of-value_of t (about.Present keyspace table) = refl

pub key_of-wanted : (w : WorkflowState) (types : TypeSet) (key : EntryKey) → key_of (wanted w types key) ≡ key
key_of-wanted w types (about.Rule key) = refl
key_of-wanted w types (about.Denied keyspace table) = refl
key_of-wanted w types (about.Present keyspace table) = refl

key_of-recorded : (w : WorkflowState) (n : ℕ) (t : TopologyState) (e : Entry) → key_of (recorded_entry w n t e) ≡ key_of e
key_of-recorded w n t e = by (is_of_step w n (key_of e))
  where
    by : (b : Bool) → key_of (if b then value_of t (key_of e) else e) ≡ key_of e
    by true = key_of-value_of t (key_of e)
    by false = refl

pub keys_recorded : (w : WorkflowState) (n : ℕ) (t : TopologyState) (entries : List Entry) → map key_of (recorded w n t entries) ≡ map key_of entries
keys_recorded w n t [] = refl
keys_recorded w n t (e ∷ entries) = rw (key_of-recorded w n t e, keys_recorded w n t entries) refl

-- ---- what is written at one key is of no other

pub wanted_elsewhere : (w : WorkflowState) (types : TypeSet) (n : ℕ) (t : TopologyState) (k key : EntryKey) → k ≢ key → value_of (with_wanted w types n t k) key ≡ value_of t key
wanted_elsewhere w types n t k key apart = by (is_of_step w n k)
  where
    by : (b : Bool) → value_of (if b then with_entry t (wanted w types k) else t) key ≡ value_of t key
    by true = value_of-written_elsewhere t (wanted w types k) key (λ same. apart (sym (key_of-wanted w types k) ∙ same))
    by false = refl

-- ---- a loop that writes where it is of the step, as one list of entries

pub writes_are_entries : (w : WorkflowState) (types : TypeSet) (n : ℕ) (t : TopologyState) (ks : List EntryKey)
    → fold (with_wanted w types n) t ks ≡ with_entries t (map (wanted w types) (filter (is_of_step w n) ks))
writes_are_entries w types n t [] = refl
writes_are_entries w types n t (k ∷ ks) = by (λ u. writes_are_entries w types n u ks) (is_of_step w n k) refl
  where
    Is : TopologyState → List EntryKey → Type 0
    Is u xs = fold (with_wanted w types n) u xs ≡ with_entries u (map (wanted w types) (filter (is_of_step w n) xs))

    by : ((u : TopologyState) → Is u ks) → (b : Bool) → is_of_step w n k ≡ b → Is t (k ∷ ks)
    by again true b = rw b (again (with_entry t (wanted w types k)))
    by again false b = rw b (again t)

pub backs_are_entries : (w : WorkflowState) (n : ℕ) (t : TopologyState) (entries : List Entry) → fold (with_recorded w n) t entries ≡ with_entries t (recorded_of w n entries)
backs_are_entries w n t [] = refl
backs_are_entries w n t (e ∷ entries) = by (λ u. backs_are_entries w n u entries) (is_of_step w n (key_of e)) refl
  where
    Is : TopologyState → List Entry → Type 0
    Is u es = fold (with_recorded w n) u es ≡ with_entries u (recorded_of w n es)

    by : ((u : TopologyState) → Is u entries) → (b : Bool) → is_of_step w n (key_of e) ≡ b → Is t (e ∷ entries)
    by again true b = rw b (again (with_entry t e))
    by again false b = rw b (again t)

-- ---- a step with which no entry changes

other_number : (a n : ℕ) → n ≢ a → (a == n) ≡ false
other_number a n apart = grind (arith, nat_tests)

-- 0, 1, 7 and 9 are the steps with which entries change
pub none_of_step : (w : WorkflowState) (n : ℕ) (key : EntryKey) → n ≢ 0 → n ≢ 1 → n ≢ 7 → n ≢ 9 → is_of_step w n key ≡ false
none_of_step w n (about.Rule key) reads denial release rules = by key.tablet_type
  where
    by : (t : Option TabletType) → (rule_step t == n) ≡ false
    by None = other_number 9 n rules
    by (Some Primary) = other_number 9 n rules
    by (Some Replica) = other_number 0 n reads
    by (Some Rdonly) = other_number 0 n reads
none_of_step w n (about.Denied keyspace table) reads denial release rules = by (owned_before (live_of w) keyspace)
  where
    by : (b : Bool) → ((if b then deny_source else allow_target) == n) ≡ false
    by true = other_number 1 n denial
    by false = other_number 7 n release
none_of_step w n (about.Present keyspace table) reads denial release rules = other_number 0 n reads

module _ (w : WorkflowState) (n : ℕ) (none : (key : EntryKey) → is_of_step w n key ≡ false) where
  pub none_swept : (types : TypeSet) (t : TopologyState) (entries : List Entry) → entries ≡ swept w types n t entries
  none_swept types t [] = refl
  none_swept types t (e ∷ entries) = rw (none (key_of e)) (ap (λ l. e ∷ l) (none_swept types t entries))

  pub none_written : (types : TypeSet) (t : TopologyState) (ks : List EntryKey) → t ≡ fold (with_wanted w types n) t ks
  none_written types t [] = refl
  none_written types t (k ∷ ks) = rw (none k) (none_written types t ks)

  pub none_written_back : (t : TopologyState) (entries : List Entry) → t ≡ fold (with_recorded w n) t entries
  none_written_back t [] = refl
  none_written_back t (e ∷ entries) = rw (none (key_of e)) (none_written_back t entries)
