-- What an edit keeps: places stay distinct, and the keyspaces within their limit.
use Rattle.std.proofs.Common.{◌≡◌, ℕ, ◌≤◌, Bool, true, false, ◌==◌, List, [], ◌∷◌, length, Option, None, Some, Result, Ok, Err, refl, sym, ap, subst, ◌∙◌, arith, length-append}
use Rattle.std.proofs.lemmas.Bool.{eqb-false}
use Rattle.std.proofs.lemmas.Map.{length-set_value}
use Rattle.std.proofs.lemmas.Map.Steps.{set_value_same}
use Rattle.std.specs.Map.{set_value}
use Rattle.std.specs.Option.{option_map_or}
use Rattle.mt_names.specs.Names.{same_text}
use Rattle.mt_names.specs.Shards.{Cuts}
use Rattle.mt_model.specs.declared.faults.TopologyFault.{TopologyFault}
use Rattle.mt_model.specs.declared.faults.TopologyFault.TheVariants.{Memory, NoKeyspace, NoTable, Ambiguous, Exists, Full, BadDump}
use Rattle.mt_model.specs.Limits.{most_keyspaces}
use Rattle.mt_model.specs.Topology.{HasDistinctPlaces, Keyspaces, KeyspaceState, keyspace_at, new_keyspace, with_keyspace, with_keyspace_state}
use Rattle.mt_model.proofs.DistinctLemmas.{distinct-with_keyspace}
use Rattle.mt_model.proofs.TopologyLemmas.{with_keyspace_state-found}
use Rattle.mt_keyspace.specs.Edits.{Edits, add_keyspace_refusal}
use Rattle.mt_keyspace.specs.Keyspaces.{AreKeyspaces}

-- a fact that holds before, and of what is made where nothing is refused, holds after
pub Edits-keeps : {A : Type 0} (P : A → Type 0) (old made new : A) (refusal : Option TopologyFault) (grows : Bool) (r : Result Unit TopologyFault) → (refusal ≡ None → P made) → P old → Edits old refusal grows made r new → P new
Edits-keeps P old made new refusal grows (Ok done) makes holds e = subst P (sym e.1) (makes e.0)
Edits-keeps P old made new refusal grows (Err Memory) makes holds e = subst P (sym e.2) holds
Edits-keeps P old made new refusal grows (Err NoKeyspace) makes holds e = subst P (sym e.1) holds
Edits-keeps P old made new refusal grows (Err NoTable) makes holds e = subst P (sym e.1) holds
Edits-keeps P old made new refusal grows (Err Ambiguous) makes holds e = subst P (sym e.1) holds
Edits-keeps P old made new refusal grows (Err Exists) makes holds e = subst P (sym e.1) holds
Edits-keeps P old made new refusal grows (Err Full) makes holds e = subst P (sym e.1) holds
Edits-keeps P old made new refusal grows (Err BadDump) makes holds e = subst P (sym e.1) holds

-- what holds of a part of the keyspace that is looked up, holds of the one that is found
pub found_part : (read : KeyspaceState → Bool) (keyspaces : Keyspaces) (name : List ℕ) (state : KeyspaceState) → keyspace_at keyspaces name ≡ Some state → option_map_or read (keyspace_at keyspaces name) false ≡ true → read state ≡ true
found_part read keyspaces name state found holds = rw found at holds

-- one keyspace changed
module _ (change : KeyspaceState → KeyspaceState) (keyspaces : Keyspaces) (name : List ℕ) (state new : KeyspaceState) (all : Keyspaces)
    (distinct : HasDistinctPlaces (record { rules = []; keyspaces = with_keyspace_state change keyspaces name })) (are : AreKeyspaces keyspaces) (found : keyspace_at keyspaces name ≡ Some state) (is : all ≡ set_value (same_text name) keyspaces new) where
  pub kept : new ≡ change state → AreKeyspaces all
  kept changed =
      let whole : all ≡ with_keyspace_state change keyspaces name = is ∙ ap (set_value (same_text name) keyspaces) changed ∙ sym (with_keyspace_state-found change keyspaces name state found) in
      record {
        distinct = subst (λ ks. HasDistinctPlaces (record { rules = []; keyspaces = ks })) (sym whole) distinct;
        few = subst (λ n. n ≤ most_keyspaces) (sym (ap length is ∙ length-set_value (same_text name) keyspaces new)) are.few;
      }

  left : new ≡ state → AreKeyspaces all
  left same = subst AreKeyspaces (sym (is ∙ ap (set_value (same_text name) keyspaces) same ∙ set_value_same (same_text name) keyspaces state found)) are

-- the same by an edit, which may be refused
pub kept_edit : (change : KeyspaceState → KeyspaceState) (keyspaces : Keyspaces) (name : List ℕ) (state new : KeyspaceState) (all : Keyspaces) (refusal : Option TopologyFault) (grows : Bool) (r : Result Unit TopologyFault)
    → HasDistinctPlaces (record { rules = []; keyspaces = with_keyspace_state change keyspaces name }) → AreKeyspaces keyspaces → keyspace_at keyspaces name ≡ Some state → all ≡ set_value (same_text name) keyspaces new
    → Edits state refusal grows (change state) r new → AreKeyspaces all
kept_edit change keyspaces name state new all refusal grows r distinct are found is e =
    subst AreKeyspaces (sym is)
    (Edits-keeps (λ s. AreKeyspaces (set_value (same_text name) keyspaces s)) state (change state) new refusal grows r
    (λ free. kept change keyspaces name state (change state) _ distinct are found refl refl) (left change keyspaces name state state _ distinct are found refl refl) e)

-- where a keyspace is not refused there is none of its name, and room for one
room_for : (keyspaces : Keyspaces) (name : List ℕ) → add_keyspace_refusal keyspaces name ≡ None → (keyspace_at keyspaces name ≡ None) × ((length keyspaces == most_keyspaces) ≡ false)
room_for keyspaces name free = by (keyspace_at keyspaces name) refl (length keyspaces == most_keyspaces) refl
  where
    by : (r : Option KeyspaceState) → keyspace_at keyspaces name ≡ r → (t : Bool) → (length keyspaces == most_keyspaces) ≡ t → (keyspace_at keyspaces name ≡ None) × ((length keyspaces == most_keyspaces) ≡ false)
    by None none false room = (none, room)
    by None none true full = absurd (let h = rw (none, full) at free in cc)
    by (Some state) some t is = absurd (let h = rw some at free in cc)

-- a keyspace more
pub one_more : (keyspaces : Keyspaces) (name : List ℕ) (cuts : Cuts) → add_keyspace_refusal keyspaces name ≡ None → AreKeyspaces keyspaces → AreKeyspaces (with_keyspace (record { rules = []; keyspaces = keyspaces }) name cuts).keyspaces
one_more keyspaces name cuts free are =
    let room = room_for keyspaces name free in record {
      distinct = distinct-with_keyspace (record { rules = []; keyspaces = keyspaces }) name cuts room.0 are.distinct;
      few = omega (arith, are.few, eqb-false (length keyspaces) most_keyspaces room.1, length-append keyspaces ((name, new_keyspace cuts) ∷ []));
    }
