-- Places that are made one after the other, and taken back.
use Rattle.std.proofs.Common.{◌≡◌, ◌≢◌, ℕ, ◌+◌, ◌*◌, ◌<◌, ◌≤◌, ◌==◌, Bool, true, false, cond, not, ◌||◌, nat_lt, List, [], ◌∷◌, ◌++◌, length, filter, fold, take, drop, Option, None, Some, is_some, slice_index_or, refl, sym, ap, ◌∙◌, arith}
use Rattle.std.proofs.lemmas.Bool.{eqb-false, le-ltb, lt-ltb, true≢false}
use Rattle.std.proofs.lemmas.Grind.{flat_map-append}
use Rattle.std.proofs.lemmas.List.{append-nil, drop_more, take_more}
use Rattle.std.proofs.lemmas.List.Folds.{list_any-append}
use Rattle.std.proofs.lemmas.List.Sums.{fold-append}
use Rattle.std.proofs.lemmas.Map.Steps.{set_value_same}
use Rattle.std.specs.List.{flat_map}
use Rattle.std.specs.Map.{lookup, set_value}
use Rattle.std.specs.Option.{option_map_or}
use Rattle.mt_names.specs.declared.keys.RuleKey.{RuleKey}
use Rattle.mt_names.specs.declared.keys.RuleTarget.{RuleTarget}
use Rattle.mt_names.specs.Names.{same_text}
use Rattle.mt_names.specs.Same.{same_key}
use Rattle.mt_model.specs.declared.entries.EntryKey.{EntryKey}
use Rattle.mt_model.specs.declared.entries.EntryKey.TheVariants as about
use Rattle.mt_model.specs.Part.{part_keys, table_part_keys, table_rule_keys, with_place, with_places}
use Rattle.mt_model.specs.Topology.{TopologyState, Keyspaces, KeyspaceState, Marks, Rules, has_place, keyspace_at, put_rule, with_keyspace_state, with_mark_place, with_rule_place, with_table_place, with_denied_place}
use Rattle.mt_model.specs.declared.faults.TopologyFault.TheVariants.{Full}
use Rattle.mt_model.specs.Limits.{most_rules}
use Rattle.mt_topology.specs.Edits.{lacks_rule_place, rule_place_refusal}
use Rattle.mt_topology.specs.Part.{has_rule_room, lacking_rules, lacks_a_place}

-- ---- a place that is there

marks_there : (marks : Marks) (name : List ℕ) → is_some (lookup (same_text name) marks) ≡ true → with_mark_place marks name ≡ marks
marks_there marks name there = by (lookup (same_text name) marks) there
  where
    by : (r : Option Bool) → is_some r ≡ true → option_map_or (λ mark. marks) r (marks ++ (name, false) ∷ []) ≡ marks
    by None e = absurd (true≢false (sym e))
    by (Some mark) e = refl

pub rules_there : (rules : Rules) (key : RuleKey) → is_some (lookup (same_key key) rules) ≡ true → with_rule_place rules key ≡ rules
rules_there rules key there = by (lookup (same_key key) rules) there
  where
    by : (r : Option (Option RuleTarget)) → is_some r ≡ true → option_map_or (λ rule. rules) r (put_rule rules (key, None)) ≡ rules
    by None e = absurd (true≢false (sym e))
    by (Some rule) e = refl

keyspace_there : (change : KeyspaceState → KeyspaceState) (test : KeyspaceState → Bool) (keyspaces : Keyspaces) (name : List ℕ) → ((state : KeyspaceState) → test state ≡ true → change state ≡ state) → option_map_or test (keyspace_at keyspaces name) false ≡ true → with_keyspace_state change keyspaces name ≡ keyspaces
keyspace_there change test keyspaces name same there = by (keyspace_at keyspaces name) refl there
  where
    by : (r : Option KeyspaceState) → keyspace_at keyspaces name ≡ r → option_map_or test r false ≡ true → option_map_or (λ state. set_value (same_text name) keyspaces (change state)) r keyspaces ≡ keyspaces
    by None none e = refl
    by (Some state) some e = ap (set_value (same_text name) keyspaces) (same state e) ∙ set_value_same (same_text name) keyspaces state some

pub with_place-there : (t : TopologyState) (key : EntryKey) → has_place t key ≡ true → with_place t key ≡ t
with_place-there t (about.Rule key) there = ap (λ rules. record t { rules = rules }) (rules_there t.rules key there)
with_place-there t (about.Denied keyspace table) there =
    ap (λ keyspaces. record t { keyspaces = keyspaces })
    (keyspace_there (with_denied_place table) (λ state. is_some (lookup (same_text table) state.denied)) t.keyspaces keyspace (λ state e. ap (λ marks. record state { denied = marks }) (marks_there state.denied table e)) there)
with_place-there t (about.Present keyspace table) there =
    ap (λ keyspaces. record t { keyspaces = keyspaces })
    (keyspace_there (with_table_place table) (λ state. is_some (lookup (same_text table) state.tables)) t.keyspaces keyspace (λ state e. ap (λ marks. record state { tables = marks }) (marks_there state.tables table e)) there)

-- where none lacks a place, nothing is made
pub with_places-there : (t : TopologyState) (keys : List EntryKey) → lacks_a_place t keys ≡ false → with_places t keys ≡ t
with_places-there t [] none = refl
with_places-there t (key ∷ keys) none = by (with_places-there t keys) (has_place t key) refl none
  where
    by : (lacks_a_place t keys ≡ false → with_places t keys ≡ t) → (b : Bool) → has_place t key ≡ b → lacks_a_place t (key ∷ keys) ≡ false → with_places (with_place t key) keys ≡ t
    by again true b e = ap (λ u. with_places u keys) (with_place-there t key b) ∙ again (rw b at e)
    by again false b e = absurd (true≢false (rw b at e))

-- ---- how many rule keys lack a place

length-filter : {A : Type 0} (test : A → Bool) (xs ys : List A) → length (filter test (xs ++ ys)) ≡ length (filter test xs) + length (filter test ys)
length-filter test [] ys = omega arith
length-filter {A} test (x ∷ xs) ys = by (length-filter test xs ys) (test x)
  where
    by : length (filter test (xs ++ ys)) ≡ length (filter test xs) + length (filter test ys) → (b : Bool) → length (cond b (x ∷ filter test (xs ++ ys)) (filter test (xs ++ ys))) ≡ length (cond b (x ∷ filter test xs) (filter test xs)) + length (filter test ys)
    by again true = omega (arith, again)
    by again false = again

pub lacking_rules-append : (rules : Rules) (keys more : List RuleKey) → lacking_rules rules (keys ++ more) ≡ lacking_rules rules keys + lacking_rules rules more
lacking_rules-append rules keys more = length-filter (λ key. not (is_some (lookup (same_key key) rules))) keys more

-- the keys of the tables that are left: those of the next, and of the others
pub lacking_left : (rules : Rules) (f : List ℕ → List RuleKey) (tables : List (List ℕ)) (i : ℕ) (table : List ℕ) (keys : List RuleKey) → i < length tables → table ≡ slice_index_or tables i table → keys ≡ f table
    → lacking_rules rules (flat_map f (drop i tables)) ≡ lacking_rules rules keys + lacking_rules rules (flat_map f (drop (i + 1) tables))
lacking_left rules f tables i table keys inside is all =
    ap (λ l. lacking_rules rules (flat_map f l)) (drop_more tables i table inside)
    ∙ ap (λ t. lacking_rules rules (f t ++ flat_map f (drop (i + 1) tables))) (sym is)
    ∙ ap (λ k. lacking_rules rules (k ++ flat_map f (drop (i + 1) tables))) (sym all)
    ∙ lacking_rules-append rules keys (flat_map f (drop (i + 1) tables))

-- those that lack one are no more than all
few_lacking : (rules : Rules) (keys : List RuleKey) → lacking_rules rules keys ≤ length keys
few_lacking rules [] = omega arith
few_lacking rules (key ∷ keys) = by (few_lacking rules keys) (not (is_some (lookup (same_key key) rules)))
  where
    by : lacking_rules rules keys ≤ length keys → (t : Bool) → length (cond t (key ∷ filter (λ k. not (is_some (lookup (same_key k) rules))) keys) (filter (λ k. not (is_some (lookup (same_key k) rules))) keys)) ≤ length (key ∷ keys)
    by again true = omega (arith, again)
    by again false = omega (arith, again)

-- twelve for each table
length_rule_keys : (source target : List ℕ) (tables : List (List ℕ)) → length (flat_map (table_rule_keys source target) tables) ≡ length tables * 12
length_rule_keys source target [] = refl
length_rule_keys source target (table ∷ tables) = omega (arith, length_rule_keys source target tables)

-- where twelve for each table find room, those that lack a place do
pub room_for_all : (rules : Rules) (source target : List ℕ) (tables : List (List ℕ)) → length rules + length tables * 12 ≤ 4096 → true ≡ has_rule_room rules (flat_map (table_rule_keys source target) tables)
room_for_all rules source target tables room =
    let few = few_lacking rules (flat_map (table_rule_keys source target) tables) in
    let all = length_rule_keys source target tables in
    ap not (sym (le-ltb 4096 (length rules + lacking_rules rules (flat_map (table_rule_keys source target) tables)) (omega (arith, few, all, room))))

pub no_room : (most all : ℕ) → most < all → false ≡ not (nat_lt most all)
no_room most all over = ap not (sym (lt-ltb most all over))

-- ---- the tables of a part, one after the other

keys-more : (keys_of : List ℕ → List EntryKey) (tables : List (List ℕ)) (i : ℕ) (table : List ℕ) (keys : List EntryKey) → i < length tables → table ≡ slice_index_or tables i table → keys ≡ keys_of table
    → flat_map keys_of (take (i + 1) tables) ≡ flat_map keys_of (take i tables) ++ keys
keys-more keys_of tables i table keys inside is all =
    ap (flat_map keys_of) (take_more tables i table inside)
    ∙ ap (λ t. flat_map keys_of (take i tables ++ t ∷ [])) (sym is)
    ∙ flat_map-append keys_of (take i tables) (table ∷ [])
    ∙ ap (λ k. flat_map keys_of (take i tables) ++ k) (append-nil (keys_of table) ∙ sym all)

pub fold-more : (f : TopologyState → EntryKey → TopologyState) (keys_of : List ℕ → List EntryKey) (t now new : TopologyState) (tables : List (List ℕ)) (i : ℕ) (table : List ℕ) (keys : List EntryKey) → i < length tables → table ≡ slice_index_or tables i table → keys ≡ keys_of table
    → now ≡ fold f t (flat_map keys_of (take i tables)) → new ≡ fold f now keys → new ≡ fold f t (flat_map keys_of (take (i + 1) tables))
fold-more f keys_of t now new tables i table keys inside is all before after =
    after ∙ ap (λ u. fold f u keys) before ∙ sym (fold-append f t (flat_map keys_of (take i tables)) keys) ∙ ap (fold f t) (sym (keys-more keys_of tables i table keys inside is all))

pub part_keys-left : (source target : List ℕ) (tables : List (List ℕ)) (i : ℕ) (table : List ℕ) (keys : List EntryKey) → i < length tables → table ≡ slice_index_or tables i table → keys ≡ table_part_keys source target table
    → part_keys source target (drop i tables) ≡ keys ++ part_keys source target (drop (i + 1) tables)
part_keys-left source target tables i table keys inside is all =
    ap (part_keys source target) (drop_more tables i table inside)
    ∙ ap (λ u. table_part_keys source target u ++ part_keys source target (drop (i + 1) tables)) (sym is)
    ∙ ap (λ k. k ++ part_keys source target (drop (i + 1) tables)) (sym all)

pub lacks-left : (t : TopologyState) (source target : List ℕ) (tables : List (List ℕ)) (i : ℕ) (table : List ℕ) (keys : List EntryKey) → i < length tables → table ≡ slice_index_or tables i table → keys ≡ table_part_keys source target table
    → lacks_a_place t (part_keys source target (drop i tables)) ≡ (lacks_a_place t keys || lacks_a_place t (part_keys source target (drop (i + 1) tables)))
lacks-left t source target tables i table keys inside is all =
    ap (lacks_a_place t) (part_keys-left source target tables i table keys inside is all)
    ∙ list_any-append (λ key. not (has_place t key)) keys (part_keys source target (drop (i + 1) tables))

-- ---- room for one rule key

-- a key that lacks a place and isn't refused one finds room
pub room_left : (rules : Rules) (key : RuleKey) → lacks_rule_place rules key ≡ true → rule_place_refusal rules key ≡ None → length rules ≤ most_rules → length rules < most_rules
room_left rules key lacks free within = by (length rules == most_rules) refl (rw lacks at free)
  where
    by : (t : Bool) → (length rules == most_rules) ≡ t → cond t (Some Full) None ≡ None → length rules < most_rules
    by true t e = absurd cc
    by false t e = let apart : length rules ≢ most_rules = eqb-false (length rules) most_rules t in omega (arith, within, apart)
