-- Rules that say the same of each key as what is kept.
use Rattle.std.proofs.Common.{◌≡◌, ℕ, suc, ◌+◌, ◌<◌, Bool, true, false, cond, List, [], ◌∷◌, ◌++◌, map, take, length, slice_index_or, Option, None, refl, ap, sym, arith, ◌∙◌}
use Rattle.std.proofs.lemmas.Bool.{true≢false}
use Rattle.std.proofs.lemmas.List.{take_more}
use Rattle.std.proofs.lemmas.List.Sums.{fold-append}
use Rattle.indexmap.specs.IndexMap.{insert_entry}
use Rattle.mt_names.specs.declared.keys.RuleKey.{RuleKey}
use Rattle.mt_names.specs.declared.keys.RuleTarget.{RuleTarget}
use Rattle.mt_names.specs.Same.{same_key}
use Rattle.mt_names.proofs.SameLemmas.{same_key_decides}
use Rattle.mt_model.specs.Topology.{Rules, rule_at}
use Rattle.mt_workflow.specs.Builds.{Agrees, with_kept}
use Rattle.mt_workflow.specs.Workflows.{keys_of_rules, kept_of}
use Rattle.mt_workflow.proofs.StoodLemmas.{kept-there}

-- what stands at a key once one more rule is put there
inserted : (es : Rules) (k j : RuleKey) (v : Option RuleTarget) → rule_at (insert_entry same_key es k v) j ≡ cond (same_key j k) v (rule_at es j)
inserted [] k j v = by (same_key j k) refl
  where
    by : (t : Bool) → same_key j k ≡ t → rule_at ((k, v) ∷ []) j ≡ cond (same_key j k) v None
    by true t = rw t refl
    by false t = rw t refl
inserted (e ∷ es) k j v = by (inserted es k j v) (same_key k e.0) refl (same_key j e.0) refl (same_key j k) refl
  where
    by : rule_at (insert_entry same_key es k v) j ≡ cond (same_key j k) v (rule_at es j) → (s : Bool) → same_key k e.0 ≡ s → (t : Bool) → same_key j e.0 ≡ t → (u : Bool) → same_key j k ≡ u
        → rule_at (insert_entry same_key (e ∷ es) k v) j ≡ cond (same_key j k) v (rule_at (e ∷ es) j)
    by again true s true t true u = rw (s, t, u) refl
    by again true s false t false u = rw (s, t, u) refl
    by again true s true t false u = absurd (true≢false (sym ((same_key_decides j k).1 ((same_key_decides j e.0).0 t ∙ sym ((same_key_decides k e.0).0 s))) ∙ u))
    by again true s false t true u = absurd (true≢false (sym ((same_key_decides j e.0).1 ((same_key_decides j k).0 u ∙ (same_key_decides k e.0).0 s)) ∙ t))
    by again false s true t true u = absurd (true≢false (sym ((same_key_decides k e.0).1 (sym ((same_key_decides j k).0 u) ∙ (same_key_decides j e.0).0 t)) ∙ s))
    by again false s true t false u = rw (s, t, u) refl
    by again false s false t u w = rw (s, t) again

pub agrees_inserted : (es stood : Rules) (k : RuleKey) (v : Option RuleTarget) → Agrees es stood → Agrees (insert_entry same_key es k v) (insert_entry same_key stood k v)
agrees_inserted es stood k v agree j = inserted es k j v ∙ ap (cond (same_key j k) v) (agree j) ∙ sym (inserted stood k j v)

-- of no rule, where nothing is kept
pub agrees_left : (es stood : Rules) (k : RuleKey) → es ≡ [] → Agrees es stood → Agrees es (insert_entry same_key stood k None)
agrees_left es stood k empty agree j = none ∙ sym (inserted stood k j None ∙ by (same_key j k))
  where
    none : rule_at es j ≡ None
    none = ap (λ l. rule_at l j) empty

    by : (t : Bool) → cond t None (rule_at stood j) ≡ None
    by true = refl
    by false = sym (agree j) ∙ none

pub none_of : (es : Rules) → length es ≡ 0 → es ≡ []
none_of [] e = refl
none_of (x ∷ es) e = absurd (omega (arith, e))

-- one key more
pub agrees_more : (rules es new stood : Rules) (keys : List RuleKey) (i : ℕ) (key : RuleKey) (v : Option RuleTarget) → i < length keys → key ≡ slice_index_or keys i key → v ≡ rule_at rules key
    → ((s : Rules) → Agrees es s → Agrees new (insert_entry same_key s key v)) → Agrees es (with_kept rules stood (take i keys)) → Agrees new (with_kept rules stood (take (i + 1) keys))
agrees_more rules es new stood keys i key v inside is stands kept agree j =
    kept (with_kept rules stood (take i keys)) agree j
    ∙ ap (λ r. rule_at (insert_entry same_key (with_kept rules stood (take i keys)) key r) j) stands
    ∙ ap (λ l. rule_at l j)
    (sym (ap (with_kept rules stood) (take_more keys i key inside ∙ ap (λ k. take i keys ++ k ∷ []) (sym is))
    ∙ fold-append (λ entries k. insert_entry same_key entries k (rule_at rules k)) stood (take i keys) (key ∷ [])))

-- ---- what is noted of the keys of a part

abbrev noted : Rules → List RuleKey → Rules
noted rules keys = map (λ key. (key, rule_at rules key)) keys

noted_same : (es rules : Rules) (keys : List RuleKey) → ((key : RuleKey) (k : ℕ) → k < length keys → slice_index_or keys k key ≡ key → rule_at es key ≡ rule_at rules key) → noted es keys ≡ noted rules keys
noted_same es rules [] same = refl
noted_same es rules (key ∷ keys) same =
    let front : Option RuleTarget → Rules = λ rule. (key, rule) ∷ noted es keys in
    let back : Rules → Rules = λ l. (key, rule_at rules key) ∷ l in
    ap front (same key 0 (omega arith) refl) ∙ ap back (noted_same es rules keys (λ j k below is. same j (suc k) (omega (arith, below)) is))

pub kept_same : (es rules : Rules) (source target : List ℕ) (tables : List (List ℕ)) → Agrees es (kept_of rules source target tables) → kept_of es source target tables ≡ kept_of rules source target tables
kept_same es rules source target tables agree =
    noted_same es rules (keys_of_rules source target tables) (λ key k below is. agree key ∙ kept-there rules (keys_of_rules source target tables) key k below is)

pub agrees_itself : (es rules : Rules) (source target : List ℕ) (tables : List (List ℕ)) → Agrees es (kept_of rules source target tables) → Agrees es (kept_of es source target tables)
agrees_itself es rules source target tables agree key = agree key ∙ ap (λ l. rule_at l key) (sym (kept_same es rules source target tables agree))
