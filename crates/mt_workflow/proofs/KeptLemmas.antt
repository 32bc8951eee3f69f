-- The rules that are kept: each key once, with the rule that stands there.
use Rattle.std.proofs.Common.{◌≡◌, ◌≢◌, ℕ, ◌<◌, ◌+◌, Bool, true, false, List, [], ◌∷◌, ◌++◌, map, filter, take, length, slice_index_or, AllPairs, Option, None, refl, ap, sym, subst, arith, append_assoc, ◌∙◌}
use Rattle.std.specs.List.{AllByRecursion, IsDistinct}
use Rattle.std.specs.Map.{lookup}
use Rattle.std.proofs.lemmas.List.{append-nil, get_or-map, length-map, take_more}
use Rattle.std.proofs.lemmas.List.Kept.{AllPairs-filter}
use Rattle.std.proofs.lemmas.List.Sums.{fold-append}
use Rattle.std.proofs.lemmas.Map.Keys.{IsDistinct-head, IsDistinct-tail}
use Rattle.std.proofs.lemmas.Map.Made.{IsDistinct-from_AllPairs}
use Rattle.indexmap.specs.IndexMap.{insert_entry}
use Rattle.mt_names.specs.declared.keys.RuleKey.{RuleKey}
use Rattle.mt_names.specs.declared.keys.RuleTarget.{RuleTarget}
use Rattle.mt_names.specs.Same.{same_key}
use Rattle.mt_names.proofs.EntryLemmas.{same_turned}
use Rattle.mt_names.proofs.SameLemmas.{same_key_decides}
use Rattle.mt_model.specs.declared.entries.EntryKey.{EntryKey}
use Rattle.mt_model.specs.declared.entries.EntryKey.TheVariants as about
use Rattle.mt_model.specs.Part.{part_keys, table_rule_keys}
use Rattle.mt_model.specs.Topology.{Rules, rule_at}
use Rattle.mt_workflow.specs.Builds.{with_kept}
use Rattle.mt_workflow.specs.Workflows.{keys_of_rules, kept_of}

-- ---- one table more

rules-append : (source target : List ℕ) (front back : List (List ℕ)) → keys_of_rules source target (front ++ back) ≡ keys_of_rules source target front ++ keys_of_rules source target back
rules-append source target [] back = refl
rules-append source target (table ∷ front) back = ap (λ l. table_rule_keys source target table ++ l) (rules-append source target front back)

pub kept-more : (rules now new : Rules) (source target : List ℕ) (tables : List (List ℕ)) (i : ℕ) (table : List ℕ) (keys : List RuleKey)
    → i < length tables → table ≡ slice_index_or tables i table → keys ≡ table_rule_keys source target table
    → now ≡ with_kept rules [] (keys_of_rules source target (take i tables)) → new ≡ with_kept rules now keys
    → new ≡ with_kept rules [] (keys_of_rules source target (take (i + 1) tables))
kept-more rules now new source target tables i table keys inside is all before after =
    let more : keys_of_rules source target (take (i + 1) tables) ≡ keys_of_rules source target (take i tables) ++ keys =
    ap (keys_of_rules source target) (take_more tables i table inside ∙ ap (λ t. take i tables ++ t ∷ []) (sym is))
    ∙ rules-append source target (take i tables) (table ∷ []) ∙ ap (λ l. keys_of_rules source target (take i tables) ++ l) (sym all) in
    after ∙ ap (λ es. with_kept rules es keys) before
    ∙ sym (fold-append (λ entries key. insert_entry same_key entries key (rule_at rules key)) [] (keys_of_rules source target (take i tables)) keys)
    ∙ ap (with_kept rules []) (sym more)

-- ---- no rule key stands twice

abbrev pub is_rule : EntryKey → Bool
is_rule (about.Rule key) = true
is_rule (about.Denied keyspace table) = false
is_rule (about.Present keyspace table) = false

pub rules-of_part : (source target : List ℕ) (tables : List (List ℕ)) → filter is_rule (part_keys source target tables) ≡ map about.Rule (keys_of_rules source target tables)
rules-of_part source target [] = refl
rules-of_part source target (table ∷ tables) = ap (λ l. map about.Rule (table_rule_keys source target table) ++ l) (rules-of_part source target tables)

pairs-from_map : (keys : List RuleKey) → AllPairs (λ a b. a ≢ b) (map about.Rule keys) → AllPairs (λ a b. a ≢ b) keys
pairs-from_map keys distinct i j d below inside same =
    distinct i j (about.Rule d) below (omega (arith, inside, length-map keys about.Rule))
    (get_or-map about.Rule keys i d (about.Rule d) (omega (arith, below, inside)) ∙ ap about.Rule same ∙ sym (get_or-map about.Rule keys j d (about.Rule d) inside))

pub rules-distinct : (source target : List ℕ) (tables : List (List ℕ)) → AllPairs (λ a b. a ≢ b) (part_keys source target tables) → IsDistinct same_key (keys_of_rules source target tables)
rules-distinct source target tables distinct =
    IsDistinct-from_AllPairs same_key_decides (keys_of_rules source target tables)
    (pairs-from_map (keys_of_rules source target tables)
    (subst (AllPairs (λ a b. a ≢ b)) (rules-of_part source target tables) (AllPairs-filter (λ a b. a ≢ b) is_rule (part_keys source target tables) distinct)))

-- ---- new keys go last

insert-new : (es : Rules) (k : RuleKey) (v : Option RuleTarget) → lookup (same_key k) es ≡ None → insert_entry same_key es k v ≡ es ++ (k, v) ∷ []
insert-new [] k v new = refl
insert-new (e ∷ es) k v new = by (insert-new es k v) (same_key k e.0) refl
  where
    by : (lookup (same_key k) es ≡ None → insert_entry same_key es k v ≡ es ++ (k, v) ∷ []) → (t : Bool) → same_key k e.0 ≡ t → insert_entry same_key (e ∷ es) k v ≡ e ∷ es ++ (k, v) ∷ []
    by again true t = absurd (let found = rw t at new in cc)
    by again false t = rw t (ap (λ l. e ∷ l) (again (rw t at new)))

lookup-push : (es : Rules) (j k : RuleKey) (v : Option RuleTarget) → lookup (same_key j) es ≡ None → same_key j k ≡ false → lookup (same_key j) (es ++ (k, v) ∷ []) ≡ None
lookup-push [] j k v none other = rw other refl
lookup-push (e ∷ es) j k v none other = by (lookup-push es j k v) (same_key j e.0) refl
  where
    by : (lookup (same_key j) es ≡ None → same_key j k ≡ false → lookup (same_key j) (es ++ (k, v) ∷ []) ≡ None) → (t : Bool) → same_key j e.0 ≡ t → lookup (same_key j) (e ∷ es ++ (k, v) ∷ []) ≡ None
    by again true t = absurd (let found = rw t at none in cc)
    by again false t = rw t (again (rw t at none) other)

still-new : (es : Rules) (k : RuleKey) (v : Option RuleTarget) (keys : List RuleKey) → AllByRecursion (λ j. lookup (same_key j) es ≡ None) keys → AllByRecursion (λ j. same_key k j ≡ false) keys
    → AllByRecursion (λ j. lookup (same_key j) (es ++ (k, v) ∷ []) ≡ None) keys
still-new es k v [] new others = tt
still-new es k v (j ∷ js) new others = (lookup-push es j k v new.0 (same_turned same_key same_key_decides j k ∙ others.0), still-new es k v js new.1 others.1)

appended : (rules es : Rules) (keys : List RuleKey) → AllByRecursion (λ k. lookup (same_key k) es ≡ None) keys → IsDistinct same_key keys
    → with_kept rules es keys ≡ es ++ map (λ key. (key, rule_at rules key)) keys
appended rules es [] new distinct = sym (append-nil es)
appended rules es (k ∷ ks) new distinct =
    ap (λ l. with_kept rules l ks) (insert-new es k (rule_at rules k) new.0)
    ∙ appended rules (es ++ (k, rule_at rules k) ∷ []) ks (still-new es k (rule_at rules k) ks new.1 (IsDistinct-head same_key k ks distinct)) (IsDistinct-tail same_key k ks distinct)
    ∙ append_assoc es ((k, rule_at rules k) ∷ []) (map (λ key. (key, rule_at rules key)) ks)

none_yet : (keys : List RuleKey) → AllByRecursion (λ k. lookup {X = Option RuleTarget} (same_key k) [] ≡ None) keys
none_yet [] = tt
none_yet (k ∷ ks) = (refl, none_yet ks)

pub kept-all : (rules : Rules) (source target : List ℕ) (tables : List (List ℕ)) → AllPairs (λ a b. a ≢ b) (part_keys source target tables)
    → with_kept rules [] (keys_of_rules source target tables) ≡ kept_of rules source target tables
kept-all rules source target tables distinct =
    appended rules [] (keys_of_rules source target tables) (none_yet (keys_of_rules source target tables)) (rules-distinct source target tables distinct)
