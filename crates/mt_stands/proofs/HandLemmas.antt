-- Keyspaces, tables and rules that are made by hand while workflows are live.
use Rattle.std.proofs.Common.{◌≡◌, ◌≢◌, ◌⊎◌, ⊎_elim, ℕ, Bool, true, false, cond, if◌then◌else◌, ◌||◌, List, [], ◌∷◌, ◌++◌, find, Option, None, Some, is_some, refl, sym, ap, ◌∙◌, subst}
use Rattle.std.specs.Map.{lookup}
use Rattle.std.specs.Option.{option_map_or}
use Rattle.mt_names.specs.declared.keys.RuleKey.{RuleKey}
use Rattle.mt_names.specs.declared.keys.RuleTarget.{RuleTarget}
use Rattle.mt_names.specs.Names.{same_text}
use Rattle.mt_names.specs.Same.{same_key}
use Rattle.mt_names.specs.Shards.{Cuts}
use Rattle.mt_names.proofs.EntryLemmas.{is_some-set_value, lookup-push_new, lookup-push_stood, lookup-remove_entry_elsewhere, lookup-remove_entry_here, none_from, same_or_other, some_from}
use Rattle.mt_names.proofs.SameLemmas.{same_key_decides, same_text_decides}
use Rattle.mt_model.specs.declared.entries.Entry.TheVariants as entry
use Rattle.mt_model.specs.declared.entries.EntryKey.{EntryKey}
use Rattle.mt_model.specs.declared.entries.EntryKey.TheVariants as about
use Rattle.mt_model.specs.Order.{key_before}
use Rattle.mt_model.proofs.OrderLemmas.{put_placed-elsewhere}
use Rattle.mt_model.specs.Topology.{HasDistinctPlaces, Keyspaces, KeyspaceState, TopologyState, cuts_at, has_place, keyspace_at, new_keyspace, value_of, with_keyspace, with_mark_place, with_new_table, with_rule, with_rule_place, with_table}
use Rattle.mt_model.proofs.DistinctLemmas.{distinct-rules, distinct-with_keyspace, distinct-with_rule, distinct-with_table}
use Rattle.mt_model.proofs.PlaceLemmas.{keyspace_at-stays}
use Rattle.mt_model.proofs.TopologyLemmas.{keyspace_at-changed_here, read_at-unchanged, rule_at-with_rule_elsewhere, rule_at-with_rule_here, value_of-rules_changed, value_of-with_keyspace, value_of-with_table_elsewhere, value_of-with_table_here, with_mark_place-there, with_rule_place-there}
use Rattle.mt_plain.specs.Plain.{Live, Plain, has_keyspace, has_part, part_owner}
use Rattle.mt_plain.specs.Serve.{served_by, served_entry, step_of_entry, types_by}
use Rattle.mt_stands.specs.Keys.{same_about}
use Rattle.mt_stands.specs.Topologies.{TopologyStands}
use Rattle.mt_model.proofs.AboutLemmas.{same_about_decides}
use Rattle.mt_stands.proofs.PartLemmas.{serve_same}
use Rattle.mt_stands.proofs.PlaceLemmas.{placed_elsewhere}

-- ---- an entry that is as it was

still : (u v : TopologyState) (key : EntryKey) (o : Option Live) → value_of v key ≡ value_of u key → option_map_or (λ w. served_by v w key) o (value_of v key) ≡ option_map_or (λ w. served_by u w key) o (value_of u key)
still u v key None same = same
still u v key (Some w) same = serve_same u v w (types_by w (step_of_entry w key)) key same

module _ (p q : Plain) (lives : q.lives ≡ p.lives) (t next_t : TopologyState) (stands : TopologyStands p t) where
  pub same_owner : (key : EntryKey) → part_owner q key ≡ part_owner p key
  same_owner key = ap (find (λ w. has_part w key)) lives

  entry_still : (key : EntryKey) → value_of next_t key ≡ value_of t key → value_of q.topology key ≡ value_of p.topology key → value_of next_t key ≡ served_entry q key
  entry_still key one two =
      one ∙ stands.served.entries key ∙ sym (still p.topology q.topology key (part_owner p key) two)
      ∙ sym (ap (λ o. option_map_or (λ w. served_by q.topology w key) o (value_of q.topology key)) (same_owner key))

  place_still : (key : EntryKey) → has_place next_t key ≡ has_place t key → has_place q.topology key ≡ has_place p.topology key → has_place next_t key ≡ (is_some (part_owner q key) || has_place q.topology key)
  place_still key one two =
      one ∙ stands.places key ∙ ap (λ b. is_some (part_owner p key) || b) (sym two) ∙ sym (ap (λ (o : Option Live). is_some o || has_place q.topology key) (same_owner key))

-- ---- a keyspace more

module _ {A : Type 0} (f : KeyspaceState → A) (none : A) where
  pushed : (cuts : Cuts) → f (new_keyspace cuts) ≡ none → (es : List (List ℕ × KeyspaceState)) (name k : List ℕ)
      → option_map_or f (lookup (same_text k) (es ++ (name, new_keyspace cuts) ∷ [])) none ≡ option_map_or f (lookup (same_text k) es) none
  pushed cuts empty es name k = by (lookup (same_text k) es) refl
    where
      either : (b : Bool) → f (new_keyspace cuts) ≡ none → option_map_or f (cond b (Some (new_keyspace cuts)) None) none ≡ none
      either true is = is
      either false is = refl

      by : (o : Option KeyspaceState) → lookup (same_text k) es ≡ o → option_map_or f (lookup (same_text k) (es ++ (name, new_keyspace cuts) ∷ [])) none ≡ option_map_or f (lookup (same_text k) es) none
      by None is =
          ap (λ o. option_map_or f o none) (lookup-push_new same_text es (name, new_keyspace cuts) k is) ∙ either (same_text k name) empty
          ∙ sym (ap (λ o. option_map_or f o none) is)
      by (Some state) is =
          ap (λ o. option_map_or f o none) (lookup-push_stood same_text es (name, new_keyspace cuts) k state is) ∙ sym (ap (λ o. option_map_or f o none) is)

none_in_new : (t : TopologyState) (name : List ℕ) (cuts : Cuts) (key : EntryKey) → has_place (with_keyspace t name cuts) key ≡ has_place t key
none_in_new t name cuts (about.Rule key) = refl
none_in_new t name cuts (about.Denied k n) = pushed (λ s. is_some (lookup (same_text n) s.denied)) false cuts refl t.keyspaces name k
none_in_new t name cuts (about.Present k n) = pushed (λ s. is_some (lookup (same_text n) s.tables)) false cuts refl t.keyspaces name k

one_more : (es : List (List ℕ × KeyspaceState)) (name k : List ℕ) (s : KeyspaceState) → is_some (lookup (same_text k) (es ++ (name, s) ∷ [])) ≡ (is_some (lookup (same_text k) es) || same_text k name)
one_more es name k s = by (lookup (same_text k) es) refl
  where
    either : (b : Bool) → is_some (cond b (Some s) None) ≡ b
    either true = refl
    either false = refl

    by : (o : Option KeyspaceState) → lookup (same_text k) es ≡ o → is_some (lookup (same_text k) (es ++ (name, s) ∷ [])) ≡ (is_some (lookup (same_text k) es) || same_text k name)
    by None is = ap is_some (lookup-push_new same_text es (name, s) k is) ∙ either (same_text k name) ∙ sym (ap (λ (o : Option KeyspaceState). is_some o || same_text k name) is)
    by (Some state) is = ap is_some (lookup-push_stood same_text es (name, s) k state is) ∙ sym (ap (λ (o : Option KeyspaceState). is_some o || same_text k name) is)

abbrev cuts_in : Keyspaces → (name : List ℕ) → Cuts → (k : List ℕ) → Cuts
cuts_in es name cuts k = if is_some (keyspace_at es k) then cuts_at es k else if same_text k name then cuts else []

cuts_with : (es : Keyspaces) (name : List ℕ) (cuts : Cuts) (k : List ℕ) → cuts_at (es ++ (name, new_keyspace cuts) ∷ []) k ≡ cuts_in es name cuts k
cuts_with es name cuts k = by (keyspace_at es k) refl
  where
    read : Option KeyspaceState → Cuts
    read o = option_map_or (λ s. s.cuts) o []

    chosen : Option KeyspaceState → Cuts
    chosen o = if is_some o then read o else if same_text k name then cuts else []

    either : (b : Bool) → read (cond b (Some (new_keyspace cuts)) None) ≡ (if b then cuts else [])
    either true = refl
    either false = refl

    by : (o : Option KeyspaceState) → keyspace_at es k ≡ o → cuts_at (es ++ (name, new_keyspace cuts) ∷ []) k ≡ cuts_in es name cuts k
    by None is = ap read (lookup-push_new same_text es (name, new_keyspace cuts) k is) ∙ either (same_text k name) ∙ sym (ap chosen is)
    by (Some state) is = ap read (lookup-push_stood same_text es (name, new_keyspace cuts) k state is) ∙ sym (ap chosen is)

-- keyspaces that have the same cuts have them with one more
cuts_pushed : (es fs : Keyspaces) (name : List ℕ) (cuts : Cuts) (k : List ℕ) → is_some (keyspace_at es k) ≡ is_some (keyspace_at fs k) → cuts_at es k ≡ cuts_at fs k
    → cuts_at (es ++ (name, new_keyspace cuts) ∷ []) k ≡ cuts_at (fs ++ (name, new_keyspace cuts) ∷ []) k
cuts_pushed es fs name cuts k there same =
    cuts_with es name cuts k ∙ ap (λ b. if b then cuts_at es k else if same_text k name then cuts else []) there
    ∙ ap (λ c. if is_some (keyspace_at fs k) then c else if same_text k name then cuts else []) same ∙ sym (cuts_with fs name cuts k)

pub keyspace_stands : (p q : Plain) (t : TopologyState) (name : List ℕ) (cuts : Cuts) → q.lives ≡ p.lives → q.topology ≡ with_keyspace p.topology name cuts → has_keyspace p name ≡ false → TopologyStands p t → TopologyStands q (with_keyspace t name cuts)
keyspace_stands p q t name cuts lives made absent stands = record {
  served = record {
    keyspaces = λ k.
        one_more t.keyspaces name k _ ∙ ap (λ b. b || same_text k name) (stands.served.keyspaces k) ∙ sym (one_more p.topology.keyspaces name k _)
        ∙ sym (ap (λ (u : TopologyState). is_some (keyspace_at u.keyspaces k)) made);
    shards = λ k.
        cuts_pushed t.keyspaces p.topology.keyspaces name cuts k (stands.served.keyspaces k) (stands.served.shards k)
        ∙ sym (ap (λ (u : TopologyState). cuts_at u.keyspaces k) made);
    entries = λ key. entry_still p q lives t (with_keyspace t name cuts) stands key (value_of-with_keyspace t name cuts key) (ap (λ u. value_of u key) made ∙ value_of-with_keyspace p.topology name cuts key);
    places = distinct-with_keyspace t name cuts (none_from (keyspace_at t.keyspaces name) (stands.served.keyspaces name ∙ absent)) stands.served.places;
  };
  places = λ key. place_still p q lives t (with_keyspace t name cuts) stands key (none_in_new t name cuts key) (ap (λ u. has_place u key) made ∙ none_in_new p.topology name cuts key);
}

-- ---- a table more

table_elsewhere : (t : TopologyState) (k n : List ℕ) (key : EntryKey) → about.Present k n ≢ key → has_place (with_table t k n) key ≡ has_place t key
table_elsewhere t k n (about.Rule key) other = refl
table_elsewhere t k n (about.Denied keyspace table) other =
    read_at-unchanged (λ s. is_some (lookup (same_text table) s.denied)) false (with_new_table n) t.keyspaces k keyspace (λ state found is. refl)
table_elsewhere t k n (about.Present keyspace table) other =
    read_at-unchanged (λ s. is_some (lookup (same_text table) s.tables)) false (with_new_table n) t.keyspaces k keyspace
    (λ state found is.
    is_some-set_value same_text (with_mark_place state.tables n) n table true
    ∙ placed_elsewhere same_text same_text_decides state.tables n table false (λ e. other (ap (λ x. about.Present x n) is ∙ ap (about.Present keyspace) e)))

table_here : (t : TopologyState) (k n : List ℕ) → is_some (keyspace_at t.keyspaces k) ≡ true → has_place (with_table t k n) (about.Present k n) ≡ true
table_here t k n there =
    let (state, found) = some_from (keyspace_at t.keyspaces k) there in
    ap (λ (o : Option KeyspaceState). option_map_or (λ s. is_some (lookup (same_text n) s.tables)) o false) (keyspace_at-changed_here (with_new_table n) t.keyspaces k state found)
    ∙ is_some-set_value same_text (with_mark_place state.tables n) n n true ∙ with_mark_place-there state.tables n

same_or_apart : (k j : EntryKey) → (k ≡ j) ⊎ (k ≢ j)
same_or_apart = same_or_other same_about same_about_decides

pub table_stands : (p q : Plain) (t : TopologyState) (k n : List ℕ) → q.lives ≡ p.lives → q.topology ≡ with_table p.topology k n → has_keyspace p k ≡ true → TopologyStands p t → TopologyStands q (with_table t k n)
table_stands p q t k n lives made there stands = record {
  served = record {
    keyspaces = λ name.
        keyspace_at-stays (with_new_table n) t.keyspaces k name ∙ stands.served.keyspaces name ∙ sym (keyspace_at-stays (with_new_table n) p.topology.keyspaces k name)
        ∙ sym (ap (λ (u : TopologyState). is_some (keyspace_at u.keyspaces name)) made);
    shards = λ name.
        read_at-unchanged (λ s. s.cuts) [] (with_new_table n) t.keyspaces k name (λ state found is. refl) ∙ stands.served.shards name
        ∙ sym (read_at-unchanged (λ s. s.cuts) [] (with_new_table n) p.topology.keyspaces k name (λ state found is. refl))
        ∙ sym (ap (λ (u : TopologyState). cuts_at u.keyspaces name) made);
    entries = λ key. ⊎_elim (λ is. here key is) (λ other. entry_still p q lives t (with_table t k n) stands key (value_of-with_table_elsewhere t k n key other) (ap (λ u. value_of u key) made ∙ value_of-with_table_elsewhere p.topology k n key other)) (same_or_apart (about.Present k n) key);
    places = distinct-with_table t k n stands.served.places;
  };
  places = λ key. ⊎_elim (λ is. placed key is) (λ other. place_still p q lives t (with_table t k n) stands key (table_elsewhere t k n key other) (ap (λ u. has_place u key) made ∙ table_elsewhere p.topology k n key other)) (same_or_apart (about.Present k n) key);
}
  where
    there_too : is_some (keyspace_at t.keyspaces k) ≡ true
    there_too = stands.served.keyspaces k ∙ there

    serves : (o : Option Live) → option_map_or (λ w. served_by q.topology w (about.Present k n)) o (value_of q.topology (about.Present k n)) ≡ entry.Present k n true
    serves None = ap (λ u. value_of u (about.Present k n)) made ∙ value_of-with_table_here p.topology k n there
    serves (Some w) = refl

    here : (key : EntryKey) → about.Present k n ≡ key → value_of (with_table t k n) key ≡ served_entry q key
    here key is = subst (λ j. value_of (with_table t k n) j ≡ served_entry q j) is (value_of-with_table_here t k n there_too ∙ sym (serves (part_owner q (about.Present k n))))

    or_true : (b : Bool) → true ≡ (b || true)
    or_true true = refl
    or_true false = refl

    placed : (key : EntryKey) → about.Present k n ≡ key → has_place (with_table t k n) key ≡ (is_some (part_owner q key) || has_place q.topology key)
    placed key is = subst (λ j. has_place (with_table t k n) j ≡ (is_some (part_owner q j) || has_place q.topology j)) is
        (table_here t k n there_too ∙ or_true (is_some (part_owner q (about.Present k n)))
        ∙ ap (λ b. is_some (part_owner q (about.Present k n)) || b) (sym (ap (λ u. has_place u (about.Present k n)) made ∙ table_here p.topology k n there)))

-- ---- a rule edited

abbrev ruled : TopologyState → RuleKey → Option RuleTarget → TopologyState
ruled t key target = record t { rules = with_rule t.rules key target }

rule_value_elsewhere : (t : TopologyState) (r : RuleKey) (target : Option RuleTarget) (key : EntryKey) → about.Rule r ≢ key → value_of (ruled t r target) key ≡ value_of t key
rule_value_elsewhere t r target key other =
    value_of-rules_changed t (with_rule t.rules r target) key (λ j is. rule_at-with_rule_elsewhere t.rules r j target (λ e. other (ap about.Rule e ∙ is)))

rule_place_elsewhere : (t : TopologyState) (r : RuleKey) (target : Option RuleTarget) (key : EntryKey) → about.Rule r ≢ key → has_place (ruled t r target) key ≡ has_place t key
rule_place_elsewhere t r (Some target) (about.Rule j) other =
    is_some-set_value same_key (with_rule_place t.rules r) r j (Some target) ∙ ap is_some (put_placed-elsewhere key_before same_key same_key_decides None t.rules r j (λ e. other (ap about.Rule e)))
rule_place_elsewhere t r None (about.Rule j) other = ap is_some (lookup-remove_entry_elsewhere same_key same_key_decides t.rules r j (λ e. other (ap about.Rule e)))
rule_place_elsewhere t r target (about.Denied k n) other = refl
rule_place_elsewhere t r target (about.Present k n) other = refl

rule_place_here : (t : TopologyState) (r : RuleKey) (target : Option RuleTarget) → HasDistinctPlaces t → has_place (ruled t r target) (about.Rule r) ≡ is_some target
rule_place_here t r (Some target) distinct = is_some-set_value same_key (with_rule_place t.rules r) r r (Some target) ∙ with_rule_place-there t.rules r
rule_place_here t r None distinct = ap is_some (lookup-remove_entry_here same_key same_key_decides t.rules r distinct.rules)

pub rule_stands : (p q : Plain) (t : TopologyState) (r : RuleKey) (target : Option RuleTarget) → q.lives ≡ p.lives → q.topology ≡ ruled p.topology r target → part_owner p (about.Rule r) ≡ None → HasDistinctPlaces p.topology
    → TopologyStands p t → TopologyStands q (record t { rules = with_rule t.rules r target })
rule_stands p q t r target lives made free distinct stands = record {
  served = record {
    keyspaces = λ name. stands.served.keyspaces name ∙ sym (ap (λ (u : TopologyState). is_some (keyspace_at u.keyspaces name)) made);
    shards = λ name. stands.served.shards name ∙ sym (ap (λ (u : TopologyState). cuts_at u.keyspaces name) made);
    entries = λ key. ⊎_elim (λ is. here key is) (λ other. entry_still p q lives t (ruled t r target) stands key (rule_value_elsewhere t r target key other) (ap (λ u. value_of u key) made ∙ rule_value_elsewhere p.topology r target key other)) (same_or_apart (about.Rule r) key);
    places = distinct-rules t (with_rule t.rules r target) (distinct-with_rule t.rules r target stands.served.places.rules) stands.served.places;
  };
  places = λ key. ⊎_elim (λ is. placed key is) (λ other. place_still p q lives t (ruled t r target) stands key (rule_place_elsewhere t r target key other) (ap (λ u. has_place u key) made ∙ rule_place_elsewhere p.topology r target key other)) (same_or_apart (about.Rule r) key);
}
  where
    free_too : part_owner q (about.Rule r) ≡ None
    free_too = same_owner p q lives t (ruled t r target) stands (about.Rule r) ∙ free

    here : (key : EntryKey) → about.Rule r ≡ key → value_of (ruled t r target) key ≡ served_entry q key
    here key is = subst (λ j. value_of (ruled t r target) j ≡ served_entry q j) is
        (ap (entry.Rule r) (rule_at-with_rule_here t.rules r target stands.served.places.rules ∙ sym (rule_at-with_rule_here p.topology.rules r target distinct.rules))
        ∙ sym (ap (λ u. value_of u (about.Rule r)) made)
        ∙ sym (ap (λ o. option_map_or (λ w. served_by q.topology w (about.Rule r)) o (value_of q.topology (about.Rule r))) free_too))

    placed : (key : EntryKey) → about.Rule r ≡ key → has_place (ruled t r target) key ≡ (is_some (part_owner q key) || has_place q.topology key)
    placed key is = subst (λ j. has_place (ruled t r target) j ≡ (is_some (part_owner q j) || has_place q.topology j)) is
        (rule_place_here t r target stands.served.places ∙ sym (rule_place_here p.topology r target distinct)
        ∙ sym (ap (λ (o : Option Live). is_some o || has_place q.topology (about.Rule r)) free_too ∙ ap (λ u. has_place u (about.Rule r)) made))
