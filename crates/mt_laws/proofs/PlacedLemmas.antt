-- In each state that a run reaches, only what stands has a place as if no workflow were live.
use Rattle.std.proofs.Common.{◌≡◌, ℕ, Bool, true, false, cond, List, [], ◌∷◌, ◌++◌, Option, None, Some, is_some, unwrap_or, refl, sym, ap, subst}
use Rattle.std.proofs.lemmas.List.Elements.{All-from_recursion}
use Rattle.std.specs.List.{AllByRecursion}
use Rattle.std.specs.Map.{lookup, remove_entry, set_value}
use Rattle.std.specs.Option.{option_map_or}
use Rattle.std.specs.Prelude.{All}
use Rattle.mt_names.specs.declared.keys.RuleKey.{RuleKey}
use Rattle.mt_names.specs.declared.keys.RuleTarget.{RuleTarget}
use Rattle.mt_names.specs.Names.{same_text}
use Rattle.mt_names.specs.Same.{DecidesEquality, same_key}
use Rattle.mt_names.proofs.EntryLemmas.{same_itself}
use Rattle.mt_names.proofs.SameLemmas.{same_key_decides, same_text_decides}
use Rattle.mt_model.specs.declared.entries.EntryKey.TheVariants as about
use Rattle.mt_model.specs.Topology.{KeyspaceState, Keyspaces, Rules, TopologyState, has_place, is_marked, is_present, keyspace_at, rule_at, with_keyspace_state, with_new_table, with_rule}
use Rattle.mt_plain.specs.Answers.{Answers}
use Rattle.mt_plain.specs.Events.{Event, add_keyspace, add_table, edit_rule, advance, complete, Answer, done, row, advanced, shown, refused}
use Rattle.mt_plain.specs.Next.{completed, next, next_taken, with_completed, with_tables, without_tables}
use Rattle.mt_plain.specs.Plain.{Live, Plain, live_at, rule_keys}
use Rattle.mt_model.specs.Order.{key_before, put_by}
use Rattle.mt_laws.specs.Places.{HasOnlyWhatStands}
use Rattle.mt_laws.specs.WayBack.{IsReached}
use Rattle.mt_laws.proofs.ListLemmas.{OfSome, append-all, each-all, fold-holds, lookup-of, option_map_or-of, remove_entry-all, set_value-all}
use Rattle.mt_laws.proofs.NumberedLemmas.{reached_is_numbered}
use Rattle.mt_laws.proofs.ReachLemmas.{reached_holds}
use Rattle.mt_laws.proofs.UntouchedLemmas.{same_topology}

-- ---- a place that is made and filled

module _ {K V : Type 0} (same : K → K → Bool) (decides : DecidesEquality same) (Q : V → Type 0) (k : K) (blank v : V) (new : Q v) where
  abbrev OfValue : K × V → Type 0
  OfValue e = Q e.1

  pushed-all : (es : List (K × V)) → lookup (same k) es ≡ None → AllByRecursion OfValue es → AllByRecursion OfValue (set_value (same k) (es ++ (k, blank) ∷ []) v)
  pushed-all [] none all = rw (same_itself same decides k) (new, tt)
  pushed-all (e ∷ es) none all = by (pushed-all es) (same k e.0) refl
    where
      by : (lookup (same k) es ≡ None → AllByRecursion OfValue es → AllByRecursion OfValue (set_value (same k) (es ++ (k, blank) ∷ []) v)) → (t : Bool) → same k e.0 ≡ t
          → AllByRecursion OfValue (cond t ((e.0, v) ∷ es ++ (k, blank) ∷ []) (e ∷ set_value (same k) (es ++ (k, blank) ∷ []) v))
      by again true t = let h : Some e.1 ≡ None = rw t at none in absurd cc
      by again false t = (all.0, again (rw t at none) all.1)

  placed-all : (es : List (K × V)) → AllByRecursion OfValue es → AllByRecursion OfValue (set_value (same k) (option_map_or (λ old. es) (lookup (same k) es) (es ++ (k, blank) ∷ [])) v)
  placed-all es all = by (lookup (same k) es) refl
    where
      by : (o : Option V) → lookup (same k) es ≡ o → AllByRecursion OfValue (set_value (same k) (option_map_or (λ old. es) o (es ++ (k, blank) ∷ [])) v)
      by None none = pushed-all es none all
      by (Some old) some = set_value-all OfValue (same k) es v (λ e is. new) all

-- the same of a place that is put in an order
module _ {K V : Type 0} (same : K → K → Bool) (decides : DecidesEquality same) (before : K → K → Bool) (Q : V → Type 0) (k : K) (blank v : V) (new : Q v) where
  abbrev OfPut : K × V → Type 0
  OfPut e = Q e.1

  put-all : (es : List (K × V)) → lookup (same k) es ≡ None → AllByRecursion OfPut es → AllByRecursion OfPut (set_value (same k) (put_by before es (k, blank)) v)
  put-all [] none all = rw (same_itself same decides k) (new, tt)
  put-all (e ∷ es) none all = by (put-all es) (same k e.0) refl (before k e.0) refl
    where
      by : (lookup (same k) es ≡ None → AllByRecursion OfPut es → AllByRecursion OfPut (set_value (same k) (put_by before es (k, blank)) v)) → (t : Bool) → same k e.0 ≡ t
          → (b : Bool) → before k e.0 ≡ b → AllByRecursion OfPut (set_value (same k) (put_by before (e ∷ es) (k, blank)) v)
      by again true t b u = let h : Some e.1 ≡ None = rw t at none in absurd cc
      by again false t true u = rw (u, same_itself same decides k) (new, all)
      by again false t false u = rw (u, t) (all.0, again (rw t at none) all.1)

  put_placed-all : (es : List (K × V)) → AllByRecursion OfPut es → AllByRecursion OfPut (set_value (same k) (option_map_or (λ old. es) (lookup (same k) es) (put_by before es (k, blank))) v)
  put_placed-all es all = by (lookup (same k) es) refl
    where
      by : (o : Option V) → lookup (same k) es ≡ o → AllByRecursion OfPut (set_value (same k) (option_map_or (λ old. es) o (put_by before es (k, blank))) v)
      by None none = put-all es none all
      by (Some old) some = set_value-all OfPut (same k) es v (λ e is. new) all

-- ---- places that hold something

abbrev IsRule : Option RuleTarget → Type 0
IsRule rule = is_some rule ≡ true

abbrev IsMark : Bool → Type 0
IsMark mark = mark ≡ true

record IsHeld (state : KeyspaceState) : Type 0 where
  tables : AllByRecursion (λ mark. IsMark mark.1) state.tables
  denied : state.denied ≡ []

record AreHeld (t : TopologyState) : Type 0 where
  rules : AllByRecursion (λ rule. IsRule rule.1) t.rules
  keyspaces : AllByRecursion (λ keyspace. IsHeld keyspace.1) t.keyspaces

with_rule-held : (rules : Rules) (key : RuleKey) (target : Option RuleTarget) → AllByRecursion (λ rule. IsRule rule.1) rules → AllByRecursion (λ rule. IsRule rule.1) (with_rule rules key target)
with_rule-held rules key None all = remove_entry-all (λ rule. IsRule rule.1) (same_key key) rules all
with_rule-held rules key (Some target) all = put_placed-all same_key same_key_decides key_before IsRule key None (Some target) refl rules all

new_table-held : (table : List ℕ) (state : KeyspaceState) → IsHeld state → IsHeld (with_new_table table state)
new_table-held table state held = record { tables = placed-all same_text same_text_decides IsMark table false true refl state.tables held.tables; denied = held.denied }

with_tables-held : (tables : List (List ℕ)) (state : KeyspaceState) → IsHeld state → IsHeld (with_tables tables state)
with_tables-held [] state held = held
with_tables-held (t ∷ ts) state held = with_tables-held ts (with_new_table t state) (new_table-held t state held)

without_tables-held : (tables : List (List ℕ)) (state : KeyspaceState) → IsHeld state → IsHeld (without_tables tables state)
without_tables-held tables state held = record {
  tables =
      fold-holds (λ t. t ≡ t) (AllByRecursion (λ mark. IsMark mark.1)) (λ marks table. remove_entry (same_text table) marks) state.tables tables
      (λ marks table all is. remove_entry-all (λ mark. IsMark mark.1) (same_text table) marks all) held.tables (each-all (λ t. t ≡ t) tables (λ t. refl));
  denied = held.denied;
}

changed-held : (change : KeyspaceState → KeyspaceState) (keyspaces : Keyspaces) (name : List ℕ) → ((state : KeyspaceState) → IsHeld state → IsHeld (change state))
    → AllByRecursion (λ keyspace. IsHeld keyspace.1) keyspaces → AllByRecursion (λ keyspace. IsHeld keyspace.1) (with_keyspace_state change keyspaces name)
changed-held change keyspaces name each all =
    option_map_or-of IsHeld (AllByRecursion (λ keyspace. IsHeld keyspace.1)) (λ state. set_value (same_text name) keyspaces (change state)) (keyspace_at keyspaces name) keyspaces
    (λ state is. set_value-all (λ keyspace. IsHeld keyspace.1) (same_text name) keyspaces (change state) (λ e was. each state is) all)
    all (lookup-of (λ keyspace. IsHeld keyspace.1) (same_text name) IsHeld keyspaces (λ e is. is) all)

completed-held : (t : TopologyState) (w : Live) → AreHeld t → AreHeld (completed t w)
completed-held t w held = record {
  rules =
      fold-holds (λ k. k ≡ k) (AllByRecursion (λ rule. IsRule rule.1)) (λ rules key. remove_entry (same_key key) rules) t.rules (rule_keys w)
      (λ rules key all is. remove_entry-all (λ rule. IsRule rule.1) (same_key key) rules all) held.rules (each-all (λ k. k ≡ k) (rule_keys w) (λ k. refl));
  keyspaces =
      changed-held (with_tables w.tables) (with_keyspace_state (without_tables w.tables) t.keyspaces w.source) w.target (with_tables-held w.tables)
      (changed-held (without_tables w.tables) t.keyspaces w.source (without_tables-held w.tables) held.keyspaces);
}

-- ---- each event

held-taken : (p : Plain) (event : Event) → AreHeld p.topology → AreHeld (next_taken p event).topology
held-taken p (add_keyspace name cuts) held = record {
  rules = held.rules;
  keyspaces = append-all (λ keyspace. IsHeld keyspace.1) p.topology.keyspaces _ held.keyspaces (record { tables = tt; denied = refl }, tt);
}
held-taken p (add_table k t) held = record { rules = held.rules; keyspaces = changed-held (with_new_table t) p.topology.keyspaces k (new_table-held t) held.keyspaces }
held-taken p (edit_rule key target) held = record { rules = with_rule-held p.topology.rules key target held.rules; keyspaces = held.keyspaces }
held-taken p (complete workflow) held = by (live_at p workflow)
  where
    by : (o : Option Live) → AreHeld (with_completed p o).topology
    by None = held
    by (Some w) = completed-held p.topology w held
held-taken p event held = subst AreHeld (sym (same_topology p event done (λ h. h))) held

held-next : (p : Plain) (event : Event) (answer : Answer) → Answers p event answer → AreHeld p.topology → AreHeld (next p event answer).topology
held-next p event done given held = held-taken p event held
held-next p event (row r) given held = held-taken p event held
held-next p event (shown s) given held = held
held-next p event (refused refusal) given held = held
held-next p (advance workflow name shard at at_most) (advanced events rows) given held =
    subst AreHeld (sym (same_topology p (advance workflow name shard at at_most) (advanced events rows) (λ h. h))) held
held-next p event (advanced events rows) given held = held

reached_held : (p : Plain) → IsReached p → AreHeld p.topology
reached_held = reached_holds (λ p. AreHeld p.topology) held-next (λ scopes. record { rules = tt; keyspaces = tt })

-- ---- what has a place

module _ (p : Plain) (reached : IsReached p) where
  held : AreHeld p.topology
  held = reached_held p reached

  at_keyspace : (keyspace : List ℕ) → OfSome IsHeld (keyspace_at p.topology.keyspaces keyspace)
  at_keyspace keyspace = lookup-of (λ k. IsHeld k.1) (same_text keyspace) IsHeld p.topology.keyspaces (λ e is. is) held.keyspaces

  pub only_what_stands : HasOnlyWhatStands p.topology
  only_what_stands = record {
    rules = All-from_recursion (λ rule. is_some rule.1 ≡ true) p.topology.rules held.rules;
    tables = All-from_recursion (λ k. All (λ mark. mark.1 ≡ true) k.1.tables) p.topology.keyspaces (each p.topology.keyspaces held.keyspaces);
    denied = All-from_recursion (λ k. k.1.denied ≡ []) p.topology.keyspaces (none p.topology.keyspaces held.keyspaces);
    places = (reached_is_numbered p reached).places;
  }
    where
      each : (keyspaces : Keyspaces) → AllByRecursion (λ k. IsHeld k.1) keyspaces → AllByRecursion (λ k. All (λ mark. mark.1 ≡ true) k.1.tables) keyspaces
      each [] all = tt
      each (k ∷ ks) all = (All-from_recursion (λ mark. mark.1 ≡ true) k.1.tables all.0.tables, each ks all.1)

      none : (keyspaces : Keyspaces) → AllByRecursion (λ k. IsHeld k.1) keyspaces → AllByRecursion (λ k. k.1.denied ≡ []) keyspaces
      none [] all = tt
      none (k ∷ ks) all = (all.0.denied, none ks all.1)

  pub rule_places : (key : RuleKey) → has_place p.topology (about.Rule key) ≡ is_some (rule_at p.topology.rules key)
  rule_places key = by (lookup (same_key key) p.topology.rules) (lookup-of (λ rule. IsRule rule.1) (same_key key) IsRule p.topology.rules (λ e is. is) held.rules)
    where
      by : (o : Option (Option RuleTarget)) → OfSome IsRule o → is_some o ≡ is_some (unwrap_or o None)
      by None is = refl
      by (Some rule) is = sym is

  pub table_places : (keyspace table : List ℕ) → has_place p.topology (about.Present keyspace table) ≡ is_present p.topology.keyspaces keyspace table
  table_places keyspace table = by (keyspace_at p.topology.keyspaces keyspace) (at_keyspace keyspace)
    where
      marked : (o : Option Bool) → OfSome IsMark o → is_some o ≡ unwrap_or o false
      marked None is = refl
      marked (Some mark) is = sym is

      by : (o : Option KeyspaceState) → OfSome IsHeld o → option_map_or (λ state. is_some (lookup (same_text table) state.tables)) o false ≡ option_map_or (λ state. is_marked state.tables table) o false
      by None is = refl
      by (Some state) is = marked (lookup (same_text table) state.tables) (lookup-of (λ mark. IsMark mark.1) (same_text table) IsMark state.tables (λ e h. h) is.tables)

  pub denied_places : (keyspace table : List ℕ) → has_place p.topology (about.Denied keyspace table) ≡ false
  denied_places keyspace table = by (keyspace_at p.topology.keyspaces keyspace) (at_keyspace keyspace)
    where
      by : (o : Option KeyspaceState) → OfSome IsHeld o → option_map_or (λ state. is_some (lookup (same_text table) state.denied)) o false ≡ false
      by None is = refl
      by (Some state) is = ap (λ marks. is_some (lookup (same_text table) marks)) is.denied
