-- What an event leaves of the topology as if no workflow were live.
use Rattle.std.proofs.Common.{◌≡◌, ◌≢◌, ◌⊎◌, inl, inr, ℕ, Bool, true, false, List, [], ◌∷◌, ◌++◌, fold, flat_map, Option, None, Some, unwrap_or, refl, sym, ap, ◌∙◌}
use Rattle.std.proofs.lemmas.Bool.{true≢false}
use Rattle.std.specs.Map.{lookup, remove_entry}
use Rattle.mt_names.specs.declared.keys.RuleKey.{RuleKey}
use Rattle.mt_names.specs.declared.keys.RuleTarget.{RuleTarget}
use Rattle.mt_names.specs.Names.{same_text}
use Rattle.mt_names.specs.Same.{DecidesEquality, same_key}
use Rattle.mt_names.proofs.EntryLemmas.{lookup-remove_entry_elsewhere}
use Rattle.mt_names.proofs.SameLemmas.{same_key_decides, same_text_decides}
use Rattle.mt_model.specs.declared.entries.Entry.TheVariants as entry
use Rattle.mt_model.specs.declared.entries.EntryKey.{EntryKey}
use Rattle.mt_model.specs.declared.entries.EntryKey.TheVariants as about
use Rattle.mt_model.specs.Part.{keys_of_name}
use Rattle.mt_model.specs.Topology.{KeyspaceState, TopologyState, is_denied, is_marked, is_present, rule_at, value_of, with_keyspace_state, with_mark_place, with_new_table, with_rule}
use Rattle.mt_model.proofs.PartLemmas.{table_of}
use Rattle.mt_model.proofs.TopologyLemmas.{is_marked-set_elsewhere, is_marked-with_mark_place, read_at-unchanged, value_of-rules_changed, rule_at-with_rule_elsewhere}
use Rattle.mt_plain.specs.Next.{completed, with_tables, without_tables}
use Rattle.mt_plain.specs.Plain.{Live, moves, rule_keys, twelve_keys}
use Rattle.mt_laws.proofs.LiveLemmas.{IsIn, any-in}

-- ---- Complete, at another table

-- look-ups of other keys than those that are removed
pub lookup-without : {K V : Type 0} (same : K → K → Bool) (decides : DecidesEquality same) (keys : List K) (es : List (K × V)) (other : K) → ((key : K) → IsIn key keys → key ≢ other)
    → lookup (same other) (fold (λ es key. remove_entry (same key) es) es keys) ≡ lookup (same other) es
lookup-without same decides [] es other apart = refl
lookup-without same decides (key ∷ keys) es other apart =
    lookup-without same decides keys (remove_entry (same key) es) other (λ k is. apart k (inr is)) ∙ lookup-remove_entry_elsewhere same decides es key other (apart key (inl refl))

-- each of the twelve keys of a table has that table
of_name : (keyspace : Option (List ℕ)) (table : List ℕ) (key : RuleKey) → IsIn key (keys_of_name keyspace table) → key.table ≡ table
of_name keyspace table key (inl e) = ap (λ k. k.table) (sym e)
of_name keyspace table key (inr (inl e)) = ap (λ k. k.table) (sym e)
of_name keyspace table key (inr (inr (inl e))) = ap (λ k. k.table) (sym e)
of_name keyspace table key (inr (inr (inr (inl e)))) = ap (λ k. k.table) (sym e)
of_name keyspace table key (inr (inr (inr (inr is)))) = absurd is

in-append : {X : Type 0} (xs ys : List X) (x : X) → IsIn x (xs ++ ys) → IsIn x xs ⊎ IsIn x ys
in-append [] ys x is = inr is
in-append (y ∷ xs) ys x (inl e) = inl (inl e)
in-append (y ∷ xs) ys x (inr is) = by (in-append xs ys x is)
  where
    by : IsIn x xs ⊎ IsIn x ys → IsIn x (y ∷ xs) ⊎ IsIn x ys
    by (inl i) = inl (inr i)
    by (inr i) = inr i

of_twelve : (source target table : List ℕ) (key : RuleKey) → IsIn key (twelve_keys source target table) → key.table ≡ table
of_twelve source target table key is = by (in-append (keys_of_name None table) (keys_of_name (Some source) table ++ keys_of_name (Some target) table) key is)
  where
    later : IsIn key (keys_of_name (Some source) table) ⊎ IsIn key (keys_of_name (Some target) table) → key.table ≡ table
    later (inl i) = of_name (Some source) table key i
    later (inr i) = of_name (Some target) table key i

    by : IsIn key (keys_of_name None table) ⊎ IsIn key (keys_of_name (Some source) table ++ keys_of_name (Some target) table) → key.table ≡ table
    by (inl i) = of_name None table key i
    by (inr i) = later (in-append (keys_of_name (Some source) table) (keys_of_name (Some target) table) key i)

pub in-flat_map : {X Y : Type 0} (f : X → List Y) (xs : List X) (y : Y) → IsIn y (flat_map f xs) → (x : X) × IsIn x xs × IsIn y (f x)
in-flat_map f [] y is = absurd is
in-flat_map f (x ∷ xs) y is = by (in-flat_map f xs y) (in-append (f x) (flat_map f xs) y is)
  where
    by : (IsIn y (flat_map f xs) → (z : _) × IsIn z xs × IsIn y (f z)) → IsIn y (f x) ⊎ IsIn y (flat_map f xs) → (z : _) × IsIn z (x ∷ xs) × IsIn y (f z)
    by again (inl i) = (x, inl refl, i)
    by again (inr i) = let r = again i in (r.0, inr r.1, r.2)

pub in_moved : (w : Live) (table : List ℕ) → IsIn table w.tables → moves w table ≡ true
in_moved w table is = any-in (λ t. same_text t table) w.tables table is ((same_text_decides table table).1 refl)

not_moved : (w : Live) (table other : List ℕ) → moves w other ≡ false → IsIn table w.tables → table ≢ other
not_moved w table other unmoved is e = true≢false (sym (in_moved w table is) ∙ ap (moves w) e ∙ unmoved)

is_marked-with : (tables : List (List ℕ)) (state : KeyspaceState) (other : List ℕ) → ((table : List ℕ) → IsIn table tables → table ≢ other) → is_marked (with_tables tables state).tables other ≡ is_marked state.tables other
is_marked-with [] state other apart = refl
is_marked-with (table ∷ tables) state other apart =
    is_marked-with tables (with_new_table table state) other (λ t is. apart t (inr is))
    ∙ is_marked-set_elsewhere (with_mark_place state.tables table) table other true (apart table (inl refl))
    ∙ is_marked-with_mark_place state.tables table other

pub denied-with : (tables : List (List ℕ)) (state : KeyspaceState) → (with_tables tables state).denied ≡ state.denied
denied-with [] state = refl
denied-with (table ∷ tables) state = denied-with tables (with_new_table table state)

pub is_denied-completed : (u : TopologyState) (w : Live) (keyspace table : List ℕ) → is_denied (completed u w).keyspaces keyspace table ≡ is_denied u.keyspaces keyspace table
is_denied-completed u w keyspace table =
    read_at-unchanged (λ state. is_marked state.denied table) false (with_tables w.tables) (with_keyspace_state (without_tables w.tables) u.keyspaces w.source) w.target keyspace
    (λ state found e. ap (λ marks. is_marked marks table) (denied-with w.tables state))
    ∙ read_at-unchanged (λ state. is_marked state.denied table) false (without_tables w.tables) u.keyspaces w.source keyspace (λ state found e. refl)

is_present-completed : (u : TopologyState) (w : Live) (keyspace table : List ℕ) → moves w table ≡ false → is_present (completed u w).keyspaces keyspace table ≡ is_present u.keyspaces keyspace table
is_present-completed u w keyspace table unmoved =
    read_at-unchanged (λ state. is_marked state.tables table) false (with_tables w.tables) (with_keyspace_state (without_tables w.tables) u.keyspaces w.source) w.target keyspace
    (λ state found e. is_marked-with w.tables state table (λ t. not_moved w t table unmoved))
    ∙ read_at-unchanged (λ state. is_marked state.tables table) false (without_tables w.tables) u.keyspaces w.source keyspace
    (λ state found e. ap (λ o. unwrap_or o false) (lookup-without same_text same_text_decides w.tables state.tables table (λ t. not_moved w t table unmoved)))

rule_at-completed : (u : TopologyState) (w : Live) (key : RuleKey) → moves w key.table ≡ false → rule_at (completed u w).rules key ≡ rule_at u.rules key
rule_at-completed u w key unmoved =
    ap (λ o. unwrap_or o None) (lookup-without same_key same_key_decides (rule_keys w) u.rules key
    (λ k is e. let r = in-flat_map (twelve_keys w.source w.target) w.tables k is in
    not_moved w r.0 key.table unmoved r.1 (sym (of_twelve w.source w.target r.0 k r.2) ∙ ap (λ x. x.table) e)))

pub value_of-completed : (u : TopologyState) (w : Live) (key : EntryKey) → moves w (table_of key) ≡ false → value_of (completed u w) key ≡ value_of u key
value_of-completed u w (about.Rule key) unmoved = ap (entry.Rule key) (rule_at-completed u w key unmoved)
value_of-completed u w (about.Denied keyspace table) unmoved = ap (entry.Denied keyspace table) (is_denied-completed u w keyspace table)
value_of-completed u w (about.Present keyspace table) unmoved = ap (entry.Present keyspace table) (is_present-completed u w keyspace table unmoved)

-- ---- from entries back to what they say

pub rule_from_value : (t u : TopologyState) (key : RuleKey) → value_of t (about.Rule key) ≡ value_of u (about.Rule key) → rule_at t.rules key ≡ rule_at u.rules key
rule_from_value t u key e = cc

pub denied_from_value : (t u : TopologyState) (keyspace table : List ℕ) → value_of t (about.Denied keyspace table) ≡ value_of u (about.Denied keyspace table) → is_denied t.keyspaces keyspace table ≡ is_denied u.keyspaces keyspace table
denied_from_value t u keyspace table e = cc

pub present_from_value : (t u : TopologyState) (keyspace table : List ℕ) → value_of t (about.Present keyspace table) ≡ value_of u (about.Present keyspace table) → is_present t.keyspaces keyspace table ≡ is_present u.keyspaces keyspace table
present_from_value t u keyspace table e = cc

pub value_of-with_rule : (t : TopologyState) (key : RuleKey) (target : Option RuleTarget) (k : EntryKey) → (about.Rule key ≡ k → ⊥) → value_of (record t { rules = with_rule t.rules key target }) k ≡ value_of t k
value_of-with_rule t key target k apart =
    value_of-rules_changed t (with_rule t.rules key target) k (λ other is. rule_at-with_rule_elsewhere t.rules key other target (λ e. apart (ap about.Rule e ∙ is)))
