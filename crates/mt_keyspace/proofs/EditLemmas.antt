-- Edits by hand: one of a part is one of the whole; a table more in a keyspace, a keyspace more.
use Rattle.std.proofs.Common.{◌≡◌, ℕ, Bool, false, ◌==◌, List, [], ◌∷◌, ◌++◌, length, Option, None, Some, is_some, Result, Ok, Err, refl, sym, ap, subst, ◌∙◌}
use Rattle.std.proofs.lemmas.Bool.{true≢false}
use Rattle.std.proofs.lemmas.Map.Steps.{set_value_same}
use Rattle.std.specs.Map.{set_value}
use Rattle.std.specs.Result.{OnOk, is_err}
use Rattle.std.specs.Option.{option_map_or}
use Rattle.indexmap.proofs.CallerLemmas.{insert_entry-new}
use Rattle.indexmap.specs.IndexMap.{IndexMap, insert_entry}
use Rattle.mt_names.specs.Names.{same_text}
use Rattle.mt_names.proofs.EntryLemmas.{none_from}
use Rattle.mt_model.specs.declared.faults.TopologyFault.{TopologyFault}
use Rattle.mt_model.specs.declared.faults.TopologyFault.TheVariants.{Memory, NoKeyspace, NoTable, Ambiguous, Exists, Full, BadDump}
use Rattle.mt_model.specs.Limits.{most_keyspaces}
use Rattle.mt_model.specs.Topology.{Keyspaces, KeyspaceState, keyspace_at, with_keyspace_state}
use Rattle.mt_model.proofs.TopologyLemmas.{with_keyspace_state-found}
use Rattle.mt_keyspace.specs.Edits.{Edits, add_keyspace_refusal, grows_at, refusal_at}

-- what an edit makes or leaves of a part, it makes or leaves of the whole
pub Edits-carried : {A B : Type 0} (old made new : A) (old_whole made_whole new_whole : B) (refusal : Option TopologyFault) (grows : Bool) (r : Result Unit TopologyFault)
    → (new ≡ made → new_whole ≡ made_whole) → (new ≡ old → new_whole ≡ old_whole) → Edits old refusal grows made r new → Edits old_whole refusal grows made_whole r new_whole
Edits-carried old made new old_whole made_whole new_whole refusal grows (Ok done) makes leaves e = (e.0, makes e.1)
Edits-carried old made new old_whole made_whole new_whole refusal grows (Err Memory) makes leaves e = (e.0, e.1, leaves e.2)
Edits-carried old made new old_whole made_whole new_whole refusal grows (Err NoKeyspace) makes leaves e = (e.0, leaves e.1)
Edits-carried old made new old_whole made_whole new_whole refusal grows (Err NoTable) makes leaves e = (e.0, leaves e.1)
Edits-carried old made new old_whole made_whole new_whole refusal grows (Err Ambiguous) makes leaves e = (e.0, leaves e.1)
Edits-carried old made new old_whole made_whole new_whole refusal grows (Err Exists) makes leaves e = (e.0, leaves e.1)
Edits-carried old made new old_whole made_whole new_whole refusal grows (Err Full) makes leaves e = (e.0, leaves e.1)
Edits-carried old made new old_whole made_whole new_whole refusal grows (Err BadDump) makes leaves e = (e.0, leaves e.1)

-- an edit of the keyspace that is found
pub edited_at : (refusal : KeyspaceState → Option TopologyFault) (grows : KeyspaceState → Bool) (change : KeyspaceState → KeyspaceState) (keyspaces new : Keyspaces) (keyspace : List ℕ) (state state_new : KeyspaceState) (r : Result Unit TopologyFault)
    → keyspace_at keyspaces keyspace ≡ Some state → new ≡ set_value (same_text keyspace) keyspaces state_new → Edits state (refusal state) (grows state) (change state) r state_new
    → Edits keyspaces (refusal_at refusal keyspaces keyspace) (grows_at grows keyspaces keyspace) (with_keyspace_state change keyspaces keyspace) r new
edited_at refusal grows change keyspaces new keyspace state state_new r found is e =
    let whole : Edits keyspaces (refusal state) (grows state) (with_keyspace_state change keyspaces keyspace) r new =
    Edits-carried state (change state) state_new keyspaces (with_keyspace_state change keyspaces keyspace) new (refusal state) (grows state) r
    (λ made. is ∙ ap (set_value (same_text keyspace) keyspaces) made ∙ sym (with_keyspace_state-found change keyspaces keyspace state found))
    (λ same. is ∙ ap (set_value (same_text keyspace) keyspaces) same ∙ set_value_same (same_text keyspace) keyspaces state found) e in
    subst (λ k. Edits keyspaces (option_map_or refusal k (Some NoKeyspace)) (option_map_or grows k false) (with_keyspace_state change keyspaces keyspace) r new) (sym found) whole

-- no keyspace of the name, and room for one
pub keyspace_taken : (keyspaces : Keyspaces) (name : List ℕ) → is_some (keyspace_at keyspaces name) ≡ false → (length keyspaces == most_keyspaces) ≡ false → add_keyspace_refusal keyspaces name ≡ None
keyspace_taken keyspaces name absent room = rw (absent, room) refl

-- and where `insert` puts it
pub keyspace_pushed : {S : Type 0} (m : IndexMap (List ℕ) KeyspaceState S) (name copy : List ℕ) (state blank : KeyspaceState) → copy ≡ name → state ≡ blank → is_some (keyspace_at m.entries name) ≡ false → insert_entry same_text m.entries copy state ≡ m.entries ++ (name, blank) ∷ []
keyspace_pushed m name copy state blank copied new absent =
    ap (λ n. insert_entry same_text m.entries n state) copied ∙ ap (insert_entry same_text m.entries name) new ∙ insert_entry-new same_text m name blank (none_from (keyspace_at m.entries name) absent)

-- what an `Ok` tells
pub on_ok : {T E P : Type 0} (r : Result T E) → is_err r ≡ false → OnOk r P → P
on_ok (Ok x) e p = p
on_ok (Err x) e p = absurd (true≢false e)
