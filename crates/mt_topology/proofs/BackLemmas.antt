-- The keyspaces of a dump are read back: their names, the tables that are there, and those that are denied.
use Rattle.std.proofs.Common.{◌≡◌, ◌≢◌, ℕ, ◌||◌, Bool, true, false, if◌then◌else◌, List, [], ◌∷◌, ◌++◌, map, Option, None, Some, is_some, option_map, option_and_then, append_assoc, append-nil, refl, sym, ap, subst, ◌∙◌}
use Rattle.std.proofs.lemmas.Bool.{true≢false}
use Rattle.std.specs.List.{AllByRecursion, IsDistinct, list_any}
use Rattle.std.specs.Map.{keys_of, lookup, set_value}
use Rattle.std.specs.Option.{option_map_or, unwrap_or}
use Rattle.serde_json.specs.Data.{string}
use Rattle.serde_json.specs.View.{items_of}
use Rattle.mt_names.specs.declared.keys.RuleTarget.{RuleTarget}
use Rattle.mt_names.specs.declared.text.Alphabet.TheVariants.{Plain, WithDollar}
use Rattle.mt_names.specs.Keys.{IsRuleTarget, target_text}
use Rattle.mt_names.specs.Names.{IsKeyspaceName, IsTableName, same_text}
use Rattle.mt_names.specs.Shards.{Cuts}
use Rattle.mt_names.proofs.EntryLemmas.{lookup-push_elsewhere, lookup-push_here, lookup-set_value_elsewhere, lookup-set_value_here}
use Rattle.mt_names.proofs.KeyLemmas.{read_target-target_text}
use Rattle.mt_names.proofs.NameLemmas.{read_name-name}
use Rattle.mt_names.proofs.SameLemmas.{same_text_decides}
use Rattle.mt_model.specs.Documents.{denied_text, tables_in_order}
use Rattle.mt_model.specs.Topology.{Keyspaces, KeyspaceState, Marks, is_denied, is_marked, keyspace_at}
use Rattle.mt_rules.specs.Member.{unless_fault}
use Rattle.mt_rules.proofs.KeysLemmas.{none_yet}
use Rattle.mt_keyspace.specs.declared.load.DumpVersion.TheVariants.{Two}
use Rattle.mt_keyspace.specs.Load.{denials_of, keyspaces_of, state_of, tables_of, with_denial, with_denial_of, with_new_denial, with_new_keyspace, with_new_mark}
use Rattle.mt_keyspace.specs.Values.{IsNamedKeyspace, keyspace_value}
use Rattle.mt_keyspace.proofs.DifferLemmas.{of_keyspaces, of_tables}
use Rattle.mt_keyspace.proofs.GatherLemmas.{or-grouped}
use Rattle.mt_topology.proofs.ShardLemmas.{shards_back}

-- ---- names that aren't there yet

module _ {V : Type 0} where
  -- with an entry more, of a name that is none of these
  still_none : (es : List (List ℕ × V)) (n : List ℕ) (v : V) (names : List (List ℕ)) → AllByRecursion (λ k. lookup (same_text k) es ≡ None) names → AllByRecursion (λ k. same_text n k ≡ false) names
      → AllByRecursion (λ k. lookup (same_text k) (es ++ (n, v) ∷ []) ≡ None) names
  still_none es n v [] lacks other = tt
  still_none es n v (k ∷ names) lacks other = (
    lookup-push_elsewhere same_text same_text_decides es n k v (λ e. true≢false (sym ((same_text_decides n k).1 e) ∙ other.0)) ∙ lacks.0,
    still_none es n v names lacks.1 other.1,
  )

-- ---- keyspaces without denials

abbrev pub read_tables : List (List ℕ) → Marks
read_tables tables = map (λ table. (table, true)) tables

abbrev pub read_state : KeyspaceState → KeyspaceState
read_state state = record { cuts = state.cuts; tables = read_tables (tables_in_order state); denied = [] }

abbrev pub read_keyspaces : Keyspaces → Keyspaces
read_keyspaces ks = map (λ k. (k.0, read_state k.1)) ks

tables_back : (marks : Marks) (tables : List (List ℕ)) → AllByRecursion IsTableName tables → AllByRecursion (λ m. lookup (same_text m) marks ≡ None) tables → IsDistinct same_text tables
    → tables_of marks (items_of (map string tables)) ≡ Some (marks ++ read_tables tables)
unfolding IsDistinct
tables_back marks [] named lacks distinct = ap Some (sym (append-nil marks))
tables_back marks (n ∷ tables) named lacks distinct =
    let rest = items_of (map string tables) in
    ap (λ r. option_and_then (λ more. tables_of more rest) (option_and_then (with_new_mark marks) (unless_fault r))) (read_name-name WithDollar n named.0)
    ∙ ap (λ o. option_and_then (λ more. tables_of more rest) (if is_some o then None else Some (marks ++ (n, true) ∷ []))) lacks.0
    ∙ tables_back (marks ++ (n, true) ∷ []) tables named.1 (still_none marks n true tables lacks.1 distinct.0) distinct.1
    ∙ ap Some (append_assoc marks ((n, true) ∷ []) (read_tables tables))

state_back : (k : List ℕ × KeyspaceState) → IsNamedKeyspace k → IsDistinct same_text (tables_in_order k.1) → state_of Two (keyspace_value k) ≡ Some (read_state k.1)
state_back k named distinct =
    ap (option_and_then (λ cuts. option_map (λ tables. record { cuts = cuts; tables = tables; denied = [] }) (option_and_then (tables_of []) (Some (items_of (map string (tables_in_order k.1)))))))
    (shards_back k.1.cuts named.cuts named.ranges)
    ∙ ap (option_map (λ tables. record { cuts = k.1.cuts; tables = tables; denied = [] })) (tables_back [] (tables_in_order k.1) named.tables (none_yet Bool same_text (tables_in_order k.1)) distinct)

pub keyspaces_back : (before ks : Keyspaces) → AllByRecursion IsNamedKeyspace ks → AllByRecursion (λ k. IsDistinct same_text (tables_in_order k.1)) ks → AllByRecursion (λ n. keyspace_at before n ≡ None) (keys_of ks) → IsDistinct same_text (keys_of ks)
    → keyspaces_of Two before (items_of (map keyspace_value ks)) ≡ Some (before ++ read_keyspaces ks)
unfolding IsDistinct
keyspaces_back before [] named tables lacks distinct = ap Some (sym (append-nil before))
keyspaces_back before (k ∷ ks) named tables lacks distinct =
    let rest = items_of (map keyspace_value ks) in
    let more = before ++ (k.0, read_state k.1) ∷ [] in
    ap (λ r. option_and_then (λ m. keyspaces_of Two m rest) (option_and_then (λ name. option_and_then (with_new_keyspace before name) (state_of Two (keyspace_value k))) (unless_fault r))) (read_name-name Plain k.0 named.0.name)
    ∙ ap (λ s. option_and_then (λ m. keyspaces_of Two m rest) (option_and_then (with_new_keyspace before k.0) s)) (state_back k named.0 tables.0)
    ∙ ap (λ o. option_and_then (λ m. keyspaces_of Two m rest) (if is_some o then None else Some more)) lacks.0
    ∙ keyspaces_back more ks named.1 tables.1 (still_none before k.0 (read_state k.1) (keys_of ks) lacks.1 distinct.0) distinct.1
    ∙ ap Some (append_assoc before ((k.0, read_state k.1) ∷ []) (read_keyspaces ks))

-- ---- one denial more

-- the denial that a text names can be read: its table is there, and isn't denied yet
pub record IsReady (ks : Keyspaces) (text : List ℕ) : Type 0 where
  pub target : RuleTarget
  pub named : IsRuleTarget target
  pub written : text ≡ target_text target
  pub state : KeyspaceState
  pub found : keyspace_at ks target.keyspace ≡ Some state
  pub there : is_marked state.tables target.table ≡ true
  pub free : lookup (same_text target.table) state.denied ≡ None

abbrev with_denied : KeyspaceState → List ℕ → KeyspaceState
with_denied state table = record state { denied = state.denied ++ (table, true) ∷ [] }

abbrev after_denial : (ks : Keyspaces) (text : List ℕ) → IsReady ks text → Keyspaces
after_denial ks text r = set_value (same_text r.target.keyspace) ks (with_denied r.state r.target.table)

one_denial : (ks : Keyspaces) (text : List ℕ) (r : IsReady ks text) → with_denial_of ks (string text) ≡ Some (after_denial ks text r)
one_denial ks text r =
    let put = set_value (same_text r.target.keyspace) ks in
    ap (λ t. with_denial_of ks (string t)) r.written
    ∙ ap (λ x. option_and_then (with_denial ks) (unless_fault x)) (read_target-target_text r.target r.named)
    ∙ ap (λ o. option_and_then (λ state. option_map put (with_new_denial r.target.table state)) o) r.found
    ∙ ap (λ b. option_map put (if b then option_map (λ denied. record r.state { denied = denied }) (with_new_mark r.state.denied r.target.table) else None)) r.there
    ∙ ap (λ o. option_map put (option_map (λ denied. record r.state { denied = denied }) (if is_some o then None else Some (r.state.denied ++ (r.target.table, true) ∷ [])))) r.free

some_or : {A : Type 0} → A → Option A → A
some_or other (Some x) = x
some_or other None = other

stays_ready : (ks : Keyspaces) (text other : List ℕ) (r : IsReady ks text) → IsReady ks other → same_text text other ≡ false → IsReady (after_denial ks text r) other
unfolding some_or
stays_ready ks text other r o differs = by (same_text r.target.keyspace o.target.keyspace) refl
  where
    new : KeyspaceState
    new = with_denied r.state r.target.table

    by : (t : Bool) → same_text r.target.keyspace o.target.keyspace ≡ t → IsReady (after_denial ks text r) other
    by true t =
        let same : r.target.keyspace ≡ o.target.keyspace = (same_text_decides r.target.keyspace o.target.keyspace).0 t in
        let state_is : r.state ≡ o.state = ap (some_or r.state) (sym r.found ∙ ap (keyspace_at ks) same ∙ o.found) in
        let table_other : r.target.table ≢ o.target.table = λ e.
        true≢false (sym ((same_text_decides text other).1 (r.written ∙ ap (λ k. denied_text k r.target.table) same ∙ ap (denied_text o.target.keyspace) e ∙ sym o.written)) ∙ differs) in
        record {
          target = o.target;
          named = o.named;
          written = o.written;
          state = with_denied r.state r.target.table;
          found = subst (λ k. lookup (same_text k) (after_denial ks text r) ≡ Some (with_denied r.state r.target.table)) same (lookup-set_value_here same_text same_text_decides ks r.target.keyspace (with_denied r.state r.target.table) r.state r.found);
          there = ap (λ s. is_marked s.tables o.target.table) state_is ∙ o.there;
          free = lookup-push_elsewhere same_text same_text_decides r.state.denied r.target.table o.target.table true table_other ∙ ap (λ s. lookup (same_text o.target.table) s.denied) state_is ∙ o.free;
        }
    by false t = record {
      target = o.target;
      named = o.named;
      written = o.written;
      state = o.state;
      found = lookup-set_value_elsewhere same_text same_text_decides ks r.target.keyspace o.target.keyspace (with_denied r.state r.target.table) (λ e. true≢false (sym ((same_text_decides r.target.keyspace o.target.keyspace).1 e) ∙ t)) ∙ o.found;
      there = o.there;
      free = o.free;
    }

all_ready : (ks : Keyspaces) (text : List ℕ) (texts : List (List ℕ)) (r : IsReady ks text) → AllByRecursion (IsReady ks) texts → AllByRecursion (λ o. same_text text o ≡ false) texts → AllByRecursion (IsReady (after_denial ks text r)) texts
all_ready ks text [] r ready differ = tt
all_ready ks text (o ∷ texts) r ready differ = (stays_ready ks text o r ready.0 differ.0, all_ready ks text texts r ready.1 differ.1)

-- the tables stay
abbrev pub tables_alone : Keyspaces → List (List ℕ × Marks)
tables_alone ks = map (λ k. (k.0, k.1.tables)) ks

-- and so do the shards
abbrev pub cuts_alone : Keyspaces → List (List ℕ × Cuts)
cuts_alone ks = map (λ k. (k.0, k.1.cuts)) ks

module _ {A : Type 0} (part : KeyspaceState → A) (test : List ℕ → Bool) where
  abbrev parts : Keyspaces → List (List ℕ × A)
  parts ks = map (λ k. (k.0, part k.1)) ks

  part_stays : (ks : Keyspaces) (new state : KeyspaceState) → part new ≡ part state → lookup test ks ≡ Some state → parts (set_value test ks new) ≡ parts ks
  unfolding some_or
  part_stays [] new state same found = refl
  part_stays (k ∷ ks) new state same found = by (part_stays ks new state same) (test k.0) refl
    where
      by : (lookup test ks ≡ Some state → parts (set_value test ks new) ≡ parts ks) → (t : Bool) → test k.0 ≡ t → parts (set_value test (k ∷ ks) new) ≡ parts (k ∷ ks)
      by again true t =
          let is : k.1 ≡ state = ap (some_or state) (rw t at found) in
          rw t (ap (λ p. (k.0, p) ∷ parts ks) (same ∙ ap part (sym is)))
      by again false t = rw t (ap (λ l. (k.0, part k.1) ∷ l) (again (rw t at found)))

marked_more : (marks : Marks) (table other : List ℕ) → lookup (same_text table) marks ≡ None → is_marked (marks ++ (table, true) ∷ []) other ≡ (same_text other table || is_marked marks other)
marked_more marks table other none = by (same_text other table) refl
  where
    by : (t : Bool) → same_text other table ≡ t → is_marked (marks ++ (table, true) ∷ []) other ≡ (same_text other table || is_marked marks other)
    by true t =
        let same : other ≡ table = (same_text_decides other table).0 t in
        rw t (ap (λ n. is_marked (marks ++ (table, true) ∷ []) n) same ∙ ap (λ o. unwrap_or o false) (lookup-push_here same_text same_text_decides marks table true none))
    by false t =
        let differ : table ≢ other = λ e. true≢false (sym ((same_text_decides other table).1 (sym e)) ∙ t) in
        rw t (ap (λ o. unwrap_or o false) (lookup-push_elsewhere same_text same_text_decides marks table other true differ))

pub same_denial : (k t u : List ℕ) → same_text (denied_text k t) (denied_text k u) ≡ same_text t u
same_denial k t u = by (same_text t u) refl
  where
    by : (b : Bool) → same_text t u ≡ b → same_text (denied_text k t) (denied_text k u) ≡ same_text t u
    by true b = (same_text_decides (denied_text k t) (denied_text k u)).1 (ap (denied_text k) ((same_text_decides t u).0 b)) ∙ sym b
    by false b = of_tables k t u b ∙ sym b

denied_more : (ks : Keyspaces) (text : List ℕ) (r : IsReady ks text) (k u : List ℕ) → IsKeyspaceName k → is_denied (after_denial ks text r) k u ≡ (same_text (denied_text k u) text || is_denied ks k u)
denied_more ks text r k u named = by (same_text k r.target.keyspace) refl
  where
    denies_it : Option KeyspaceState → Bool
    denies_it o = option_map_or (λ state. is_marked state.denied u) o false

    by : (t : Bool) → same_text k r.target.keyspace ≡ t → is_denied (after_denial ks text r) k u ≡ (same_text (denied_text k u) text || is_denied ks k u)
    by true t =
        let same : k ≡ r.target.keyspace = (same_text_decides k r.target.keyspace).0 t in
        let text_same : same_text (denied_text k u) text ≡ same_text u r.target.table =
        ap (same_text (denied_text k u)) (r.written ∙ ap (λ n. denied_text n r.target.table) (sym same)) ∙ same_denial k u r.target.table in
        let now : is_denied (after_denial ks text r) k u ≡ is_marked (r.state.denied ++ (r.target.table, true) ∷ []) u =
        ap (λ n. is_denied (after_denial ks text r) n u) same
        ∙ ap (λ o. option_map_or (λ state. is_marked state.denied u) o false) (lookup-set_value_here same_text same_text_decides ks r.target.keyspace (with_denied r.state r.target.table) r.state r.found) in
        let was : is_denied ks k u ≡ is_marked r.state.denied u = ap (λ n. is_denied ks n u) same ∙ ap (λ o. option_map_or (λ state. is_marked state.denied u) o false) r.found in
        now ∙ marked_more r.state.denied r.target.table u r.free ∙ sym (ap (λ b. b || is_denied ks k u) text_same ∙ ap (λ b. same_text u r.target.table || b) was)
    by false t =
        let differ : r.target.keyspace ≢ k = λ e. true≢false (sym ((same_text_decides k r.target.keyspace).1 (sym e)) ∙ t) in
        let text_other : same_text (denied_text k u) text ≡ false = ap (same_text (denied_text k u)) r.written ∙ of_keyspaces k r.target.keyspace u r.target.table named r.named.keyspace t in
        ap (λ o. option_map_or (λ state. is_marked state.denied u) o false) (lookup-set_value_elsewhere same_text same_text_decides ks r.target.keyspace k (with_denied r.state r.target.table) differ)
        ∙ sym (ap (λ b. b || is_denied ks k u) text_other)

-- ---- all denials

pub record Denies (old : Keyspaces) (texts : List (List ℕ)) : Type 0 where
  pub new : Keyspaces
  pub reads : denials_of old (items_of (map string texts)) ≡ Some new
  pub tables : tables_alone new ≡ tables_alone old
  pub cuts : cuts_alone new ≡ cuts_alone old
  pub denied : (k u : List ℕ) → IsKeyspaceName k → is_denied new k u ≡ (list_any (same_text (denied_text k u)) texts || is_denied old k u)

pub denials_back : (ks : Keyspaces) (texts : List (List ℕ)) → AllByRecursion (IsReady ks) texts → IsDistinct same_text texts → Denies ks texts
unfolding IsDistinct
denials_back ks [] ready distinct = record { new = ks; reads = refl; tables = refl; cuts = refl; denied = λ k u named. refl }
denials_back ks (text ∷ texts) ready distinct =
    let r = ready.0 in
    let rest = denials_back (after_denial ks text r) texts (all_ready ks text texts r ready.1 distinct.0) distinct.1 in
    record {
      new = rest.new;
      reads = ap (λ o. option_and_then (λ more. denials_of more (items_of (map string texts))) o) (one_denial ks text r) ∙ rest.reads;
      tables = rest.tables ∙ part_stays (λ s. s.tables) (same_text r.target.keyspace) ks (with_denied r.state r.target.table) r.state refl r.found;
      cuts = rest.cuts ∙ part_stays (λ s. s.cuts) (same_text r.target.keyspace) ks (with_denied r.state r.target.table) r.state refl r.found;
      denied = λ k u named. rest.denied k u named ∙ ap (λ b. list_any (same_text (denied_text k u)) texts || b) (denied_more ks text r k u named)
          ∙ sym (or-grouped (same_text (denied_text k u) text) (list_any (same_text (denied_text k u)) texts) (is_denied ks k u));
    }
