-- In each state that a run reaches, what is served gives nothing two places, and has the keyspaces of the state.
use Rattle.std.proofs.Common.{◌≡◌, ◌≢◌, ◌⊎◌, inl, inr, ℕ, ◌<◌, Bool, true, false, List, [], ◌∷◌, ◌++◌, map, filter, Option, None, Some, All, AllPairs, is_some, refl, sym, ap, ◌∙◌, subst, arith}
use Rattle.std.proofs.lemmas.Bool.{true≢false}
use Rattle.std.proofs.lemmas.List.{get_or-map, length-map, map-append}
use Rattle.std.proofs.lemmas.List.Elements.{All-from_recursion, filter-append, recursion_from_All}
use Rattle.std.proofs.lemmas.List.Kept.{AllPairs-filter}
use Rattle.std.proofs.lemmas.Map.Keys.{IsDistinct-cons, IsDistinct-head, IsDistinct-tail}
use Rattle.std.proofs.lemmas.Map.Made.{AllPairs-from_IsDistinct, IsDistinct-from_AllPairs}
use Rattle.std.specs.List.{AllByRecursion, IsDistinct, flat_map, fold}
use Rattle.std.specs.Map.{keys_of, lookup, remove_entry, set_value}
use Rattle.std.specs.Option.{option_map_or}
use Rattle.std.specs.Prelude.{◌||◌}
use Rattle.mt_names.specs.declared.keys.RuleKey.{RuleKey}
use Rattle.mt_names.specs.Names.{same_text}
use Rattle.mt_names.specs.Same.{DecidesEquality, same_key}
use Rattle.mt_names.proofs.EntryLemmas.{IsDistinct-remove_entry, IsDistinct-set_value, absent_from_lookup, lookup-remove_entry_elsewhere, lookup-remove_entry_here, none_from, same_or_other, same_turned}
use Rattle.mt_names.proofs.SameLemmas.{same_key_decides, same_text_decides}
use Rattle.mt_model.specs.declared.entries.EntryKey.{EntryKey}
use Rattle.mt_model.specs.declared.entries.EntryKey.TheVariants as about
use Rattle.mt_model.specs.Part.{part_keys, table_part_keys}
use Rattle.mt_model.specs.Topology.{HasDistinctPlaces, KeyspaceState, Keyspaces, Marks, TopologyState, has_place, keyspace_at, with_keyspace_state, cuts_at}
use Rattle.mt_model.proofs.PartLemmas.{part_distinct}
use Rattle.mt_model.proofs.PlaceLemmas.{keyspace_at-stays}
use Rattle.mt_model.proofs.TopologyLemmas.{denied_distinct, keyspace_at-changed_elsewhere, read_at-unchanged, tables_distinct}
use Rattle.mt_plain.specs.Plain.{Live, Plain, among, moves, rule_keys, twelve_keys}
use Rattle.mt_plain.specs.Serve.{IsServed, denials_over, mark_in, rule_in, served, served_by, with_part_at, with_workflow}
use Rattle.mt_laws.specs.WayBack.{IsReached}
use Rattle.mt_laws.proofs.CompleteLemmas.{distinct-removed}
use Rattle.mt_laws.proofs.CutLemmas.{cuts_changed}
use Rattle.mt_laws.proofs.InPlaceLemmas.{tables_once}
use Rattle.mt_laws.proofs.ListLemmas.{set_value-all}
use Rattle.mt_laws.proofs.LiveLemmas.{Apart, IsApart, IsIn, all_from_in, in_all}
use Rattle.mt_laws.proofs.NumberedLemmas.{reached_is_numbered}
use Rattle.mt_laws.proofs.PlacedLemmas.{denied_places, table_places}
use Rattle.mt_laws.proofs.ReachLemmas.{reached_has_parts}
use Rattle.mt_laws.proofs.ReachedLemmas.{reached-serves}

-- ---- entries of some keys before others

module _ {K V : Type 0} (same : K → K → Bool) (decides : DecidesEquality same) where
  -- an entry of no key of the first is looked up among the others
  over-lookup : (f : K → V) (keys : List K) (rest : List (K × V)) (k : K) → AllByRecursion (λ j. same k j ≡ false) keys → lookup (same k) (map (λ j. (j, f j)) keys ++ rest) ≡ lookup (same k) rest
  over-lookup f [] rest k differs = refl
  over-lookup f (j ∷ js) rest k differs = rw differs.0 (over-lookup f js rest k differs.1)

  over-distinct : (f : K → V) (keys : List K) (rest : List (K × V)) → IsDistinct same keys → IsDistinct same (keys_of rest) → AllByRecursion (λ k. lookup (same k) rest ≡ None) keys
      → IsDistinct same (keys_of (map (λ j. (j, f j)) keys ++ rest))
  over-distinct f [] rest distinct others absent = others
  over-distinct f (k ∷ ks) rest distinct others absent =
      IsDistinct-cons same k (keys_of (map (λ j. (j, f j)) ks ++ rest))
      (absent_from_lookup same decides (map (λ j. (j, f j)) ks ++ rest) k (over-lookup f ks rest k (IsDistinct-head same k ks distinct) ∙ absent.0))
      (over-distinct f ks rest (IsDistinct-tail same k ks distinct) others absent.1)

  -- a key that is taken away has no entry
  removed-none : (keys : List K) (es : List (K × V)) (k : K) → IsDistinct same (keys_of es) → IsIn k keys ⊎ (lookup (same k) es ≡ None) → lookup (same k) (fold (λ es key. remove_entry (same key) es) es keys) ≡ None
  removed-none [] es k distinct (inl is) = absurd is
  removed-none [] es k distinct (inr none) = none
  removed-none (j ∷ js) es k distinct either =
      removed-none js (remove_entry (same j) es) k (IsDistinct-remove_entry same decides (same j) es distinct) (by (same_or_other same decides j k) either)
    where
      by : (j ≡ k) ⊎ (j ≢ k) → IsIn k (j ∷ js) ⊎ (lookup (same k) es ≡ None) → IsIn k js ⊎ (lookup (same k) (remove_entry (same j) es) ≡ None)
      by (inl is) e = inr (subst (λ n. lookup (same n) (remove_entry (same j) es) ≡ None) is (lookup-remove_entry_here same decides es j distinct))
      by (inr other) (inl (inl is)) = absurd (other is)
      by (inr other) (inl (inr is)) = inl is
      by (inr other) (inr none) = inr (lookup-remove_entry_elsewhere same decides es j k other ∙ none)

-- a name that is not among some differs from each of them
not-among : (names : List (List ℕ)) (name : List ℕ) → among names name ≡ false → AllByRecursion (λ n. same_text name n ≡ false) names
not-among [] name none = tt
not-among (n ∷ ns) name none = by (not-among ns name) (same_text n name) refl
  where
    by : (among ns name ≡ false → AllByRecursion (λ m. same_text name m ≡ false) ns) → (t : Bool) → same_text n name ≡ t → AllByRecursion (λ m. same_text name m ≡ false) (n ∷ ns)
    by again true t = absurd (true≢false (sym (ap (λ b. b || among ns name) t) ∙ none))
    by again false t = (same_turned same_text same_text_decides name n ∙ t, again (sym (ap (λ b. b || among ns name) t) ∙ none))

among-in : (names : List (List ℕ)) (name : List ℕ) → IsIn name names → among names name ≡ true
among-in [] name is = absurd is
among-in (n ∷ ns) name (inl is) = rw ((same_text_decides n name).1 is) refl
among-in (n ∷ ns) name (inr is) = by (same_text n name) (among-in ns name is)
  where
    by : (t : Bool) → among ns name ≡ true → (t || among ns name) ≡ true
    by true again = refl
    by false again = again

-- ---- the rule keys of a part are distinct

abbrev is_rule : EntryKey → Bool
is_rule (about.Rule key) = true
is_rule (about.Denied keyspace table) = false
is_rule (about.Present keyspace table) = false

rules_of_part : (source target : List ℕ) (tables : List (List ℕ)) → filter is_rule (part_keys source target tables) ≡ map about.Rule (flat_map (twelve_keys source target) tables)
rules_of_part source target [] = refl
rules_of_part source target (t ∷ ts) =
    filter-append is_rule (table_part_keys source target t) (part_keys source target ts)
    ∙ ap (λ l. map about.Rule (twelve_keys source target t) ++ l) (rules_of_part source target ts)
    ∙ sym (map-append about.Rule (twelve_keys source target t) (flat_map (twelve_keys source target) ts))

pairs-unmapped : (keys : List RuleKey) → AllPairs (λ a b. a ≢ b) (map about.Rule keys) → AllPairs (λ a b. a ≢ b) keys
pairs-unmapped keys pairs i j d below inside same =
    pairs i j (about.Rule d) below (subst (λ n. j < n) (sym (length-map keys about.Rule)) inside)
    (get_or-map about.Rule keys i d (about.Rule d) (omega arith) ∙ ap about.Rule same ∙ sym (get_or-map about.Rule keys j d (about.Rule d) inside))

rule_keys-distinct : (w : Live) → w.source ≢ w.target → IsDistinct same_text w.tables → IsDistinct same_key (rule_keys w)
rule_keys-distinct w sides distinct =
    IsDistinct-from_AllPairs same_key_decides (rule_keys w)
    (pairs-unmapped (rule_keys w) (subst (AllPairs (λ a b. a ≢ b)) (rules_of_part w.source w.target w.tables)
    (AllPairs-filter (λ a b. a ≢ b) is_rule (part_keys w.source w.target w.tables) (part_distinct w.source w.target w.tables sides (AllPairs-from_IsDistinct same_text_decides w.tables distinct)))))

-- ---- one workflow over a topology

-- a change of a keyspace keeps what holds of each, where it makes it hold there
changed_at : (P : KeyspaceState → Type 0) (change : KeyspaceState → KeyspaceState) (keyspaces : Keyspaces) (name : List ℕ) → ((state : KeyspaceState) → keyspace_at keyspaces name ≡ Some state → P (change state))
    → All (λ k. P k.1) keyspaces → All (λ k. P k.1) (with_keyspace_state change keyspaces name)
changed_at P change keyspaces name here all = by (keyspace_at keyspaces name) refl
  where
    by : (o : Option KeyspaceState) → keyspace_at keyspaces name ≡ o → All (λ k. P k.1) (option_map_or (λ state. set_value (same_text name) keyspaces (change state)) o keyspaces)
    by None none = all
    by (Some state) some =
        All-from_recursion (λ k. P k.1) (set_value (same_text name) keyspaces (change state))
        (set_value-all (λ k. P k.1) (same_text name) keyspaces (change state) (λ e was. here state some) (recursion_from_All (λ k. P k.1) keyspaces all))

names-distinct : (change : KeyspaceState → KeyspaceState) (keyspaces : Keyspaces) (name : List ℕ) → IsDistinct same_text (keys_of keyspaces) → IsDistinct same_text (keys_of (with_keyspace_state change keyspaces name))
names-distinct change keyspaces name distinct = by (keyspace_at keyspaces name)
  where
    by : (o : Option KeyspaceState) → IsDistinct same_text (keys_of (option_map_or (λ state. set_value (same_text name) keyspaces (change state)) o keyspaces))
    by None = distinct
    by (Some state) = IsDistinct-set_value same_text same_text_decides keyspaces name (change state) distinct

abbrev TablesApart : KeyspaceState → Type 0
TablesApart state = IsDistinct same_text (keys_of state.tables)

abbrev DeniedApart : KeyspaceState → Type 0
DeniedApart state = IsDistinct same_text (keys_of state.denied)

-- a workflow whose entries have no place yet
record HasNoPlace (u : TopologyState) (w : Live) : Type 0 where
  sides : w.source ≢ w.target
  tables : IsDistinct same_text w.tables
  absent : (table : List ℕ) → moves w table ≡ true → has_place u (about.Present w.target table) ≡ false
  allowed : (keyspace table : List ℕ) → moves w table ≡ true → has_place u (about.Denied keyspace table) ≡ false

module _ (u : TopologyState) (w : Live) (distinct : HasDistinctPlaces u) (free : HasNoPlace u w) where
  abbrev at_target : KeyspaceState → KeyspaceState
  at_target state = with_part_at u w w.target (map (λ t. (t, true)) w.tables) state

  abbrev at_source : KeyspaceState → KeyspaceState
  at_source state = with_part_at u w w.source [] state

  abbrev sourced : Keyspaces
  sourced = with_keyspace_state at_source u.keyspaces w.source

  -- the marks of a keyspace have no place for a moved table
  absent_from : (marks : KeyspaceState → Marks) (keyspace : List ℕ) (state : KeyspaceState) → keyspace_at u.keyspaces keyspace ≡ Some state
      → ((table : List ℕ) → moves w table ≡ true → option_map_or (λ s. is_some (lookup (same_text table) (marks s))) (keyspace_at u.keyspaces keyspace) false ≡ false)
      → AllByRecursion (λ table. lookup (same_text table) (marks state) ≡ None) w.tables
  absent_from marks keyspace state found none =
      all_from_in (λ table. lookup (same_text table) (marks state) ≡ None) w.tables
      (λ table is. none_from (lookup (same_text table) (marks state))
      (sym (ap (λ o. option_map_or (λ s. is_some (lookup (same_text table) (marks s))) o false) found) ∙ none table (among-in w.tables table is)))

  denied_over : (keyspace : List ℕ) (state : KeyspaceState) → keyspace_at u.keyspaces keyspace ≡ Some state → IsDistinct same_text (keys_of (denials_over u w keyspace ++ state.denied))
  denied_over keyspace state found =
      over-distinct same_text same_text_decides (λ table. mark_in (served_by u w (about.Denied keyspace table))) w.tables state.denied free.tables
      (denied_distinct u keyspace state distinct found) (absent_from (λ s. s.denied) keyspace state found (free.allowed keyspace))

  -- the target is as it was before the source changed
  target_as_was : (state : KeyspaceState) → keyspace_at sourced w.target ≡ Some state → keyspace_at u.keyspaces w.target ≡ Some state
  target_as_was state found = sym (keyspace_at-changed_elsewhere at_source u.keyspaces w.source w.target free.sides) ∙ found

  over-places : HasDistinctPlaces (with_workflow u w)
  over-places = record {
    rules =
        over-distinct same_key same_key_decides (λ key. rule_in (served_by u w (about.Rule key))) (rule_keys w) (fold (λ rules key. remove_entry (same_key key) rules) u.rules (rule_keys w))
        (rule_keys-distinct w free.sides free.tables) (distinct-removed same_key same_key_decides (rule_keys w) u.rules distinct.rules)
        (all_from_in (λ key. lookup (same_key key) (fold (λ rules key. remove_entry (same_key key) rules) u.rules (rule_keys w)) ≡ None) (rule_keys w)
        (λ key is. removed-none same_key same_key_decides (rule_keys w) u.rules key distinct.rules (inl is)));
    keyspaces = names-distinct at_target sourced w.target (names-distinct at_source u.keyspaces w.source distinct.keyspaces);
    tables =
        changed_at TablesApart at_target sourced w.target
        (λ state found.
        over-distinct same_text same_text_decides (λ table. true) w.tables state.tables free.tables (tables_distinct u w.target state distinct (target_as_was state found))
        (absent_from (λ s. s.tables) w.target state (target_as_was state found) free.absent))
        (changed_at TablesApart at_source u.keyspaces w.source (λ state found. tables_distinct u w.source state distinct found) distinct.tables);
    denied =
        changed_at DeniedApart at_target sourced w.target (λ state found. denied_over w.target state (target_as_was state found))
        (changed_at DeniedApart at_source u.keyspaces w.source (λ state found. denied_over w.source state found) distinct.denied);
  }

-- ---- several workflows

module _ (u : TopologyState) (w : Live) where
  -- the places of tables that it doesn't move stay
  abbrev source_changed : KeyspaceState → KeyspaceState
  source_changed state = with_part_at u w w.source [] state

  abbrev target_changed : KeyspaceState → KeyspaceState
  target_changed state = with_part_at u w w.target (map (λ t. (t, true)) w.tables) state

  abbrev has_denied : List ℕ → KeyspaceState → Bool
  has_denied table state = is_some (lookup (same_text table) state.denied)

  abbrev has_mark : List ℕ → KeyspaceState → Bool
  has_mark table state = is_some (lookup (same_text table) state.tables)

  module _ (table : List ℕ) (unmoved : moves w table ≡ false) where
    denied-past : (keyspace : List ℕ) (state : KeyspaceState) → is_some (lookup (same_text table) (denials_over u w keyspace ++ state.denied)) ≡ has_denied table state
    denied-past keyspace state =
        ap (λ o. is_some o) (over-lookup same_text same_text_decides (λ t. mark_in (served_by u w (about.Denied keyspace t))) w.tables state.denied table (not-among w.tables table unmoved))

    over-denied : (keyspace : List ℕ) → has_place (with_workflow u w) (about.Denied keyspace table) ≡ has_place u (about.Denied keyspace table)
    over-denied keyspace =
        read_at-unchanged (has_denied table) false target_changed (with_keyspace_state source_changed u.keyspaces w.source) w.target keyspace (λ state found is. denied-past w.target state)
        ∙ read_at-unchanged (has_denied table) false source_changed u.keyspaces w.source keyspace (λ state found is. denied-past w.source state)

    over-present : (keyspace : List ℕ) → has_place (with_workflow u w) (about.Present keyspace table) ≡ has_place u (about.Present keyspace table)
    over-present keyspace =
        read_at-unchanged (has_mark table) false target_changed (with_keyspace_state source_changed u.keyspaces w.source) w.target keyspace
        (λ state found is. ap (λ o. is_some o) (over-lookup same_text same_text_decides (λ t. true) w.tables state.tables table (not-among w.tables table unmoved)))
        ∙ read_at-unchanged (has_mark table) false source_changed u.keyspaces w.source keyspace (λ state found is. refl)

  free-stays : (v : Live) → IsApart w v → HasNoPlace u v → HasNoPlace (with_workflow u w) v
  free-stays v apart free = record {
    sides = free.sides;
    tables = free.tables;
    absent = λ table moved. over-present table (unmoved table moved (moves w table) refl) v.target ∙ free.absent table moved;
    allowed = λ keyspace table moved. over-denied table (unmoved table moved (moves w table) refl) keyspace ∙ free.allowed keyspace table moved;
  }
    where
      unmoved : (table : List ℕ) → moves v table ≡ true → (t : Bool) → moves w table ≡ t → moves w table ≡ false
      unmoved table moved true t = absurd (apart.tables table t moved)
      unmoved table moved false t = t

fold-places : (ws : List Live) (u : TopologyState) → HasDistinctPlaces u → Apart ws → ((w : Live) → IsIn w ws → HasNoPlace u w) → HasDistinctPlaces (fold with_workflow u ws)
fold-places [] u distinct apart free = distinct
fold-places (w ∷ ws) u distinct apart free =
    fold-places ws (with_workflow u w) (over-places u w distinct (free w (inl refl))) apart.1
    (λ v is. free-stays u w v (in_all (IsApart w) ws v apart.0 is) (free v (inr is)))

fold-keyspaces : (ws : List Live) (u : TopologyState) (name : List ℕ) → is_some (keyspace_at (fold with_workflow u ws).keyspaces name) ≡ is_some (keyspace_at u.keyspaces name)
fold-keyspaces [] u name = refl
fold-keyspaces (w ∷ ws) u name =
    fold-keyspaces ws (with_workflow u w) name
    ∙ keyspace_at-stays (target_changed u w) (with_keyspace_state (source_changed u w) u.keyspaces w.source) w.target name
    ∙ keyspace_at-stays (source_changed u w) u.keyspaces w.source name

pub served_places : (p : Plain) → IsReached p → HasDistinctPlaces (served p)
served_places p reached =
    let is = reached_is_numbered p reached in
    let has = reached_has_parts p reached in
    fold-places p.lives p.topology is.places has.apart
    (λ w in_it. record {
      sides = (has.placed w in_it).sides;
      tables = tables_once p reached w in_it;
      absent = λ table moved. table_places p reached w.target table ∙ is.vacant w in_it table moved;
      allowed = λ keyspace table moved. denied_places p reached keyspace table;
    })

cuts-over : (u : TopologyState) (w : Live) (k : List ℕ) → cuts_at (with_workflow u w).keyspaces k ≡ cuts_at u.keyspaces k
cuts-over u w k =
    cuts_changed (with_part_at u w w.target (map (λ table. (table, true)) w.tables)) (λ state. refl) (with_keyspace_state (with_part_at u w w.source []) u.keyspaces w.source) w.target k
    ∙ cuts_changed (with_part_at u w w.source []) (λ state. refl) u.keyspaces w.source k

fold-cuts : (ws : List Live) (u : TopologyState) (k : List ℕ) → cuts_at (fold with_workflow u ws).keyspaces k ≡ cuts_at u.keyspaces k
fold-cuts [] u k = refl
fold-cuts (w ∷ ws) u k = fold-cuts ws (with_workflow u w) k ∙ cuts-over u w k

pub is_served : (p : Plain) → IsReached p → IsServed p (served p)
is_served p reached = record {
  keyspaces = fold-keyspaces p.lives p.topology;
  shards = fold-cuts p.lives p.topology;
  entries = reached-serves p reached;
  places = served_places p reached;
}
