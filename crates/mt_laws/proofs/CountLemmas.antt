-- Sums over lists that change, and how many tables and rules a topology has.
use Rattle.std.proofs.Common.{◌≡◌, ◌≢◌, ◌⊎◌, inl, inr, ℕ, suc, ◌+◌, ◌≤◌, Bool, true, false, cond, List, [], ◌∷◌, ◌++◌, map, filter, length, Option, None, Some, refl, sym, ap, ◌∙◌, subst, arith}
use Rattle.std.proofs.lemmas.List.Sums.{sum_by-append, sum_by-cons, sum_by_push}
use Rattle.std.proofs.lemmas.Map.{length-set_value}
use Rattle.std.specs.List.{count_by, flat_map, fold, sum_by}
use Rattle.std.specs.Map.{lookup, remove_entry, set_value}
use Rattle.std.specs.Option.{option_map_or}
use Rattle.mt_names.specs.Names.{same_text}
use Rattle.mt_names.specs.Shards.{Cuts}
use Rattle.mt_names.proofs.EntryLemmas.{lookup-push_new, lookup-push_stood, same_or_other}
use Rattle.mt_names.proofs.SameLemmas.{same_text_decides}
use Rattle.mt_model.specs.Topology.{new_keyspace, KeyspaceState, Keyspaces, Marks, keyspace_at, with_keyspace_state, with_mark_place, with_new_table}
use Rattle.mt_model.proofs.TopologyLemmas.{keyspace_at-changed_elsewhere, keyspace_at-changed_here}
use Rattle.mt_plain.specs.Next.{with_tables, without_tables}
use Rattle.mt_laws.proofs.LiveLemmas.{IsIn}

-- ---- sums

module _ {X : Type 0} where
  pub sum-map : (f : X → ℕ) (g : X → X) (xs : List X) → ((x : X) → f (g x) ≡ f x) → sum_by f (map g xs) ≡ sum_by f xs
  sum-map f g [] same = refl
  sum-map f g (x ∷ xs) same = sum_by-cons f (g x) (map g xs) ∙ ap (λ n. n + sum_by f (map g xs)) (same x) ∙ ap (λ n. f x + n) (sum-map f g xs same) ∙ sym (sum_by-cons f x xs)

  pub sum-same : (f g : X → ℕ) (xs : List X) → ((x : X) → IsIn x xs → f x ≡ g x) → sum_by f xs ≡ sum_by g xs
  sum-same f g [] same = refl
  sum-same f g (x ∷ xs) same =
      sum_by-cons f x xs ∙ ap (λ n. n + sum_by f xs) (same x (inl refl)) ∙ ap (λ n. g x + n) (sum-same f g xs (λ y is. same y (inr is))) ∙ sym (sum_by-cons g x xs)

  -- what is kept
  pub sum-filter : (f : X → ℕ) (keep : X → Bool) (xs : List X) → sum_by f (filter keep xs) ≤ sum_by f xs
  sum-filter f keep [] = omega arith
  sum-filter f keep (x ∷ xs) = by (keep x) (sum-filter f keep xs)
    where
      by : (t : Bool) → sum_by f (filter keep xs) ≤ sum_by f xs → sum_by f (cond t (x ∷ filter keep xs) (filter keep xs)) ≤ sum_by f (x ∷ xs)
      by true again = let a = sum_by-cons f x (filter keep xs) in let b = sum_by-cons f x xs in omega arith
      by false again = let b = sum_by-cons f x xs in omega arith

  -- without one at least
  pub sum-without : (f : X → ℕ) (keep : X → Bool) (xs : List X) (x : X) → IsIn x xs → keep x ≡ false → sum_by f (filter keep xs) + f x ≤ sum_by f xs
  sum-without f keep [] x is gone = absurd is
  sum-without f keep (y ∷ ys) x (inl e) gone =
      let a : filter keep (y ∷ ys) ≡ filter keep ys = ap (λ b. cond b (y ∷ filter keep ys) (filter keep ys)) (ap keep e ∙ gone) in
      let b : sum_by f (filter keep (y ∷ ys)) ≡ sum_by f (filter keep ys) = ap (sum_by f) a in
      let c = sum-filter f keep ys in
      let d = sum_by-cons f y ys in
      let same : f y ≡ f x = ap f e in
      omega arith
  sum-without f keep (y ∷ ys) x (inr is) gone = by (keep y) (sum-without f keep ys x is gone)
    where
      by : (t : Bool) → sum_by f (filter keep ys) + f x ≤ sum_by f ys → sum_by f (cond t (y ∷ filter keep ys) (filter keep ys)) + f x ≤ sum_by f (y ∷ ys)
      by true again = let a = sum_by-cons f y (filter keep ys) in let b = sum_by-cons f y ys in omega arith
      by false again = let b = sum_by-cons f y ys in omega arith

  pub length-kept : (keep : X → Bool) (xs : List X) → length (filter keep xs) ≤ length xs
  length-kept keep [] = omega arith
  length-kept keep (x ∷ xs) = by (keep x) (length-kept keep xs)
    where
      by : (t : Bool) → length (filter keep xs) ≤ length xs → length (cond t (x ∷ filter keep xs) (filter keep xs)) ≤ length (x ∷ xs)
      by true again = omega arith
      by false again = omega arith

  -- a sum of those that pass a test, by a fold
  pub fold-passing : (test : X → Bool) (f : X → ℕ) (n : ℕ) (xs : List X) → fold (λ m x. cond (test x) (m + f x) m) n xs ≡ n + sum_by (λ x. cond (test x) (f x) 0) xs
  fold-passing test f n [] = omega arith
  fold-passing test f n (x ∷ xs) =
      let again = fold-passing test f (cond (test x) (n + f x) n) xs in
      let more = sum_by-cons (λ y. cond (test y) (f y) 0) x xs in
      let one = by (test x) in
      omega arith
    where
      by : (t : Bool) → cond t (n + f x) n ≡ n + cond t (f x) 0
      by true = refl
      by false = omega arith

  pub count-flat_map : {Y : Type 0} (test : X → Bool) (f : Y → List X) (ys : List Y) → count_by test (flat_map f ys) ≡ sum_by (λ y. count_by test (f y)) ys
  count-flat_map test f [] = refl
  count-flat_map test f (y ∷ ys) =
      sum_by-append (λ x. cond (test x) 1 0) (f y) (flat_map f ys) ∙ ap (λ n. count_by test (f y) + n) (count-flat_map test f ys) ∙ sym (sum_by-cons (λ z. count_by test (f z)) y ys)

-- ---- lists of entries

pub length-remove : {K V : Type 0} (test : K → Bool) (es : List (K × V)) → length (remove_entry test es) ≤ length es
length-remove test [] = omega arith
length-remove test (e ∷ es) = by (test e.0) (length-remove test es)
  where
    by : (t : Bool) → length (remove_entry test es) ≤ length es → length (cond t es (e ∷ remove_entry test es)) ≤ length (e ∷ es)
    by true again = omega arith
    by false again = omega arith

pub length-removed : {K V : Type 0} (same : K → K → Bool) (keys : List K) (es : List (K × V)) → length (fold (λ es key. remove_entry (same key) es) es keys) ≤ length es
length-removed same [] es = omega arith
length-removed same (k ∷ ks) es = let a = length-removed same ks (remove_entry (same k) es) in let b = length-remove (same k) es in omega arith

-- ---- tables that are there

abbrev pub marked : Marks → ℕ
marked marks = count_by (λ mark. mark.1) marks

abbrev one : Bool → ℕ
one mark = cond mark 1 0

marked-cons : (e : List ℕ × Bool) (marks : Marks) → marked (e ∷ marks) ≡ one e.1 + marked marks
marked-cons e marks = sum_by-cons (λ mark. cond mark.1 1 0) e marks

one-le : (mark : Bool) → one mark ≤ 1
one-le true = omega arith
one-le false = omega arith

marked-remove : (test : List ℕ → Bool) (marks : Marks) → marked (remove_entry test marks) ≤ marked marks
marked-remove test [] = omega arith
marked-remove test (e ∷ es) = by (test e.0) (marked-remove test es)
  where
    by : (t : Bool) → marked (remove_entry test es) ≤ marked es → marked (cond t es (e ∷ remove_entry test es)) ≤ marked (e ∷ es)
    by true again = let a = marked-cons e es in omega arith
    by false again = let a = marked-cons e es in let b = marked-cons e (remove_entry test es) in omega arith

marked-set : (test : List ℕ → Bool) (marks : Marks) → marked (set_value test marks true) ≤ suc (marked marks)
marked-set test [] = omega arith
marked-set test (e ∷ es) = by (test e.0) (marked-set test es)
  where
    by : (t : Bool) → marked (set_value test es true) ≤ suc (marked es) → marked (cond t ((e.0, true) ∷ es) (e ∷ set_value test es true)) ≤ suc (marked (e ∷ es))
    by true again = let a = marked-cons e es in let b = marked-cons (e.0, true) es in omega arith
    by false again = let a = marked-cons e es in let b = marked-cons e (set_value test es true) in omega arith

marked-place : (marks : Marks) (name : List ℕ) → marked (with_mark_place marks name) ≡ marked marks
marked-place marks name = by (lookup (same_text name) marks)
  where
    by : (o : Option Bool) → marked (option_map_or (λ mark. marks) o (marks ++ (name, false) ∷ [])) ≡ marked marks
    by None = let a = sum_by_push (λ mark. cond mark.1 1 0) marks (name, false) in omega arith
    by (Some mark) = refl

-- ---- the tables of a keyspace

abbrev pub tables_in : Option KeyspaceState → ℕ
tables_in o = option_map_or (λ state. marked state.tables) o 0

pub new_table-count : (table : List ℕ) (state : KeyspaceState) → marked (with_new_table table state).tables ≤ marked state.tables + 1
new_table-count table state = let a = marked-set (same_text table) (with_mark_place state.tables table) in let b = marked-place state.tables table in omega arith

pub with_tables-count : (tables : List (List ℕ)) (state : KeyspaceState) → marked (with_tables tables state).tables ≤ marked state.tables + length tables
with_tables-count [] state = omega arith
with_tables-count (t ∷ ts) state = let a = with_tables-count ts (with_new_table t state) in let b = new_table-count t state in omega arith

removed-count : (tables : List (List ℕ)) (marks : Marks) → marked (fold (λ m table. remove_entry (same_text table) m) marks tables) ≤ marked marks
removed-count [] marks = omega arith
removed-count (t ∷ ts) marks = let a = removed-count ts (remove_entry (same_text t) marks) in let b = marked-remove (same_text t) marks in omega arith

pub without_tables-count : (tables : List (List ℕ)) (state : KeyspaceState) → marked (without_tables tables state).tables ≤ marked state.tables + 0
without_tables-count tables state = let a = removed-count tables state.tables in omega arith

-- a keyspace that is changed, and another one
pub tables-changed : (change : KeyspaceState → KeyspaceState) (keyspaces : Keyspaces) (name : List ℕ) (n : ℕ) → ((state : KeyspaceState) → marked (change state).tables ≤ marked state.tables + n)
    → tables_in (keyspace_at (with_keyspace_state change keyspaces name) name) ≤ tables_in (keyspace_at keyspaces name) + n
tables-changed change keyspaces name n each = by (keyspace_at keyspaces name) refl
  where
    by : (o : Option KeyspaceState) → keyspace_at keyspaces name ≡ o → tables_in (keyspace_at (with_keyspace_state change keyspaces name) name) ≤ tables_in (keyspace_at keyspaces name) + n
    by None none =
        let a : with_keyspace_state change keyspaces name ≡ keyspaces = ap (λ o. option_map_or (λ state. set_value (same_text name) keyspaces (change state)) o keyspaces) none in
        let b : tables_in (keyspace_at (with_keyspace_state change keyspaces name) name) ≡ tables_in (keyspace_at keyspaces name) = ap (λ l. tables_in (keyspace_at l name)) a in
        omega arith
    by (Some state) some =
        let a : tables_in (keyspace_at (with_keyspace_state change keyspaces name) name) ≡ marked (change state).tables = ap tables_in (keyspace_at-changed_here change keyspaces name state some) in
        let b : tables_in (keyspace_at keyspaces name) ≡ marked state.tables = ap tables_in some in
        let c = each state in
        omega arith

pub tables-elsewhere : (change : KeyspaceState → KeyspaceState) (keyspaces : Keyspaces) (name other : List ℕ) → name ≢ other → tables_in (keyspace_at (with_keyspace_state change keyspaces name) other) ≡ tables_in (keyspace_at keyspaces other)
tables-elsewhere change keyspaces name other differ = ap tables_in (keyspace_at-changed_elsewhere change keyspaces name other differ)

-- whichever keyspace it is
pub tables-kept : (change : KeyspaceState → KeyspaceState) (keyspaces : Keyspaces) (name other : List ℕ) → ((state : KeyspaceState) → marked (change state).tables ≤ marked state.tables + 0)
    → tables_in (keyspace_at (with_keyspace_state change keyspaces name) other) ≤ tables_in (keyspace_at keyspaces other)
tables-kept change keyspaces name other each = by (same_or_other same_text same_text_decides name other)
  where
    by : (name ≡ other) ⊎ (name ≢ other) → tables_in (keyspace_at (with_keyspace_state change keyspaces name) other) ≤ tables_in (keyspace_at keyspaces other)
    by (inl is) =
        subst (λ k. tables_in (keyspace_at (with_keyspace_state change keyspaces name) k) ≤ tables_in (keyspace_at keyspaces k)) is
        (let a = tables-changed change keyspaces name 0 each in omega arith)
    by (inr differ) = let a = tables-elsewhere change keyspaces name other differ in omega arith

pub tables-pushed : (keyspaces : Keyspaces) (name : List ℕ) (cuts : Cuts) (other : List ℕ) → tables_in (keyspace_at (keyspaces ++ (name, new_keyspace cuts) ∷ []) other) ≡ tables_in (keyspace_at keyspaces other)
tables-pushed keyspaces name cuts other = by (keyspace_at keyspaces other) refl
  where
    none_in : (t : Bool) → tables_in (cond t (Some (new_keyspace cuts)) None) ≡ 0
    none_in true = refl
    none_in false = refl

    by : (o : Option KeyspaceState) → keyspace_at keyspaces other ≡ o → tables_in (keyspace_at (keyspaces ++ (name, new_keyspace cuts) ∷ []) other) ≡ tables_in (keyspace_at keyspaces other)
    by None none =
        ap tables_in (lookup-push_new same_text keyspaces (name, new_keyspace cuts) other none) ∙ none_in (same_text other name) ∙ sym (ap tables_in none)
    by (Some state) some = ap tables_in (lookup-push_stood same_text keyspaces (name, new_keyspace cuts) other state some) ∙ sym (ap tables_in some)

pub length-changed : (change : KeyspaceState → KeyspaceState) (keyspaces : Keyspaces) (name : List ℕ) → length (with_keyspace_state change keyspaces name) ≡ length keyspaces
length-changed change keyspaces name = by (keyspace_at keyspaces name)
  where
    by : (o : Option KeyspaceState) → length (option_map_or (λ state. set_value (same_text name) keyspaces (change state)) o keyspaces) ≡ length keyspaces
    by None = refl
    by (Some state) = length-set_value (same_text name) keyspaces (change state)
