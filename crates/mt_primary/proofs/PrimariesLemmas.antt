-- What is found of the primaries where those of a keyspace become others: all of them, that of one shard, or each by the same change; and
-- where a keyspace is added.
use Rattle.std.proofs.Common.{◌≡◌, ◌≢◌, ⊎_elim, ℕ, suc, ◌+◌, ◌<◌, ◌≤◌, Bool, true, false, cond, List, [], ◌∷◌, length, map, get_or, min, nat_le, set, replicate, Some, None, is_some, refl, sym, ap, ◌∙◌, subst, arith, ext_get_or, length-set, get_or-set_same, get_or-set_other, set-set, unwrap_or}
use Rattle.std.proofs.lemmas.Bool.{cases_eq, cases_lt}
use Rattle.std.proofs.lemmas.List.{get_or-map, get_or-replicate, get_or_past, length-map, length-replicate, length_push, set-get_or, set_past}
use Rattle.std.proofs.lemmas.List.Sums.{count_by-le-length}
use Rattle.std.proofs.lemmas.Map.{keys-set_value, length-set_value}
use Rattle.std.proofs.lemmas.Map.Steps.{set_value_same}
use Rattle.std.specs.List.{count_by}
use Rattle.std.specs.Map.{keys_of, lookup, set_value}
use Rattle.mt_names.proofs.EntryLemmas.{apart, is_some-set_value, lookup-push_elsewhere, lookup-push_here, lookup-set_value_elsewhere, lookup-set_value_here, none_from, same_or_other, set_value-twice, some_from}
use Rattle.mt_names.proofs.SameLemmas.{same_text_decides}
use Rattle.mt_names.specs.Names.{same_text}
use Rattle.mt_names.specs.Shards.{Bound, Cuts, bound_value, shard_count, shard_of}
use Rattle.mt_primary.specs.Primary.{PrimaryState, empty_primary}
use Rattle.mt_primary.specs.Primaries.{Primaries, ShardsState, count_of, has_primaries, new_shards, no_shards, primary_in, primary_of, shards_at, shards_of, with_all, with_keyspace, with_primary, with_shards}

-- ---- entries whose keys are texts

-- a value isn't set where its key isn't there
set_value-none : {V : Type 0} (test : List ℕ → Bool) (es : List (List ℕ × V)) (v : V) → lookup test es ≡ None → set_value test es v ≡ es
set_value-none test [] v none = refl
set_value-none test (e ∷ es) v none = by (set_value-none test es v) (test e.0) refl
  where
    by : (lookup test es ≡ None → set_value test es v ≡ es) → (t : Bool) → test e.0 ≡ t → set_value test (e ∷ es) v ≡ e ∷ es
    by again true t = absurd (let h = rw t at none in cc)
    by again false t = rw t (ap (λ l. e ∷ l) (again (rw t at none)))

-- at two keys values are set in either order
set_value-order : {V : Type 0} (es : List (List ℕ × V)) (k j : List ℕ) (v w : V) → k ≢ j
    → set_value (same_text j) (set_value (same_text k) es v) w ≡ set_value (same_text k) (set_value (same_text j) es w) v
set_value-order [] k j v w other = refl
set_value-order (e ∷ es) k j v w other = by (set_value-order es k j v w other) (same_text k e.0) refl (same_text j e.0) refl
  where
    by : set_value (same_text j) (set_value (same_text k) es v) w ≡ set_value (same_text k) (set_value (same_text j) es w) v
        → (t : Bool) → same_text k e.0 ≡ t → (u : Bool) → same_text j e.0 ≡ u
        → set_value (same_text j) (set_value (same_text k) (e ∷ es) v) w ≡ set_value (same_text k) (set_value (same_text j) (e ∷ es) w) v
    by again true t true u = absurd (other ((same_text_decides k e.0).0 t ∙ sym ((same_text_decides j e.0).0 u)))
    by again true t false u = rw (t, u) (rw t refl)
    by again false t true u = rw (t, u) (rw t refl)
    by again false t false u = rw (t, u) (rw t (ap (λ l. e ∷ l) again))

-- ---- lists of primaries

-- two of one length that are alike at each place are one
pub same_each : (a b : List PrimaryState) → length a ≡ length b → ((n : ℕ) → n < length a → get_or a n empty_primary ≡ get_or b n empty_primary) → a ≡ b
same_each a b long alike = ext_get_or empty_primary a b long alike

-- and so is what a change makes of each
pub same_changed : (change : PrimaryState → PrimaryState) (old new : List PrimaryState) → length new ≡ length old
    → ((n : ℕ) → n < length old → get_or new n empty_primary ≡ change (get_or old n empty_primary)) → new ≡ map change old
same_changed change old new long alike =
    same_each new (map change old) (long ∙ sym (length-map old change))
    (λ n within. let below : n < length old = subst (λ l. n < l) long within in alike n below ∙ sym (get_or-map change old n empty_primary empty_primary below))

-- ---- what is found

-- a keyspace that isn't there has no shard
pub absent_shards : (ps : Primaries) (k : List ℕ) → has_primaries ps k ≡ false → shards_of ps k ≡ no_shards
absent_shards ps k absent = ap (λ o. unwrap_or o no_shards) (none_from (shards_at ps k) absent)

pub absent_count : (ps : Primaries) (k : List ℕ) → has_primaries ps k ≡ false → count_of ps k ≡ 0
absent_count ps k absent = ap (λ (s : ShardsState). length s.each) (absent_shards ps k absent)

-- one that has a shard is there
pub there_from_count : (ps : Primaries) (k : List ℕ) (n : ℕ) → n < count_of ps k → has_primaries ps k ≡ true
there_from_count ps k n within = by (has_primaries ps k) refl
  where
    by : (t : Bool) → has_primaries ps k ≡ t → has_primaries ps k ≡ true
    by true t = t
    by false t = absurd (let none = absent_count ps k t in omega (arith, none, within))

-- what is found there is what it has
pub found_shards : (ps : Primaries) (k : List ℕ) → has_primaries ps k ≡ true → shards_at ps k ≡ Some (shards_of ps k)
found_shards ps k there = let found = some_from (shards_at ps k) there in found.1 ∙ ap Some (sym (ap (λ o. unwrap_or o no_shards) found.1))

pub shards_from_found : (ps : Primaries) (k : List ℕ) (s : ShardsState) → shards_at ps k ≡ Some s → shards_of ps k ≡ s
shards_from_found ps k s found = ap (λ o. unwrap_or o no_shards) found

-- behind the last shard the primary is as an empty one
pub primary_past : (ps : Primaries) (k : List ℕ) (n : ℕ) → count_of ps k ≤ n → primary_of ps k n ≡ empty_primary
primary_past ps k n past = get_or_past (shards_of ps k).each n empty_primary past

-- a key stands in one of the shards
pub shard_below : (cuts : Cuts) (key : ℕ) → shard_of cuts key < shard_count cuts
shard_below cuts key = low (count_by (λ (cut : Bound). nat_le (bound_value cut) key) cuts) (count_by-le-length (λ (cut : Bound). nat_le (bound_value cut) key) cuts)
  where
    low : (c : ℕ) → c ≤ length cuts → min 7 c < min 8 (suc (length cuts))
    low c le = omega (arith, le)

-- ---- the primaries of a keyspace become others

module _ (ps : Primaries) (k : List ℕ) (each : List PrimaryState) where
  pub keys-with_shards : keys_of (with_shards ps k each) ≡ keys_of ps
  keys-with_shards = keys-set_value (same_text k) ps (record { cuts = (shards_of ps k).cuts; each = each })

  pub length-with_shards : length (with_shards ps k each) ≡ length ps
  length-with_shards = length-set_value (same_text k) ps (record { cuts = (shards_of ps k).cuts; each = each })

  pub has-with_shards : (j : List ℕ) → has_primaries (with_shards ps k each) j ≡ has_primaries ps j
  has-with_shards j = is_some-set_value same_text ps k j (record { cuts = (shards_of ps k).cuts; each = each })

  -- at another keyspace all stays
  pub at-with_shards_elsewhere : (j : List ℕ) → k ≢ j → shards_at (with_shards ps k each) j ≡ shards_at ps j
  at-with_shards_elsewhere j other = lookup-set_value_elsewhere same_text same_text_decides ps k j (record { cuts = (shards_of ps k).cuts; each = each }) other

  pub of-with_shards_elsewhere : (j : List ℕ) → k ≢ j → shards_of (with_shards ps k each) j ≡ shards_of ps j
  of-with_shards_elsewhere j other = ap (λ o. unwrap_or o no_shards) (at-with_shards_elsewhere j other)

  pub primary-with_shards_elsewhere : (j : List ℕ) (n : ℕ) → k ≢ j → primary_of (with_shards ps k each) j n ≡ primary_of ps j n
  primary-with_shards_elsewhere j n other = ap (λ s. primary_in s n) (of-with_shards_elsewhere j other)

  -- at this one they are there
  pub of-with_shards_here : has_primaries ps k ≡ true → shards_of (with_shards ps k each) k ≡ record { cuts = (shards_of ps k).cuts; each = each }
  of-with_shards_here there =
      shards_from_found (with_shards ps k each) k (record { cuts = (shards_of ps k).cuts; each = each })
      (lookup-set_value_here same_text same_text_decides ps k (record { cuts = (shards_of ps k).cuts; each = each }) (shards_of ps k) (found_shards ps k there))

  pub primary-with_shards_here : has_primaries ps k ≡ true → (n : ℕ) → primary_of (with_shards ps k each) k n ≡ get_or each n empty_primary
  primary-with_shards_here there n = ap (λ s. primary_in s n) (of-with_shards_here there)

  -- one that isn't there isn't made
  pub with_shards-absent : has_primaries ps k ≡ false → with_shards ps k each ≡ ps
  with_shards-absent absent = set_value-none (same_text k) ps (record { cuts = (shards_of ps k).cuts; each = each }) (none_from (shards_at ps k) absent)

  -- the bounds between its shards stay
  pub cuts-with_shards : (j : List ℕ) → (shards_of (with_shards ps k each) j).cuts ≡ (shards_of ps j).cuts
  cuts-with_shards j = ⊎_elim here (λ other. ap (λ (s : ShardsState). s.cuts) (of-with_shards_elsewhere j other)) (same_or_other same_text same_text_decides k j)
    where
      by : (t : Bool) → has_primaries ps k ≡ t → (shards_of (with_shards ps k each) k).cuts ≡ (shards_of ps k).cuts
      by true t = ap (λ (s : ShardsState). s.cuts) (of-with_shards_here t)
      by false t = ap (λ (l : Primaries). (shards_of l k).cuts) (with_shards-absent t)

      here : k ≡ j → (shards_of (with_shards ps k each) j).cuts ≡ (shards_of ps j).cuts
      here e = subst (λ i. (shards_of (with_shards ps k each) i).cuts ≡ (shards_of ps i).cuts) e (by (has_primaries ps k) refl)

  -- as many primaries as before leave each keyspace as many
  pub count-with_shards : length each ≡ count_of ps k → (j : List ℕ) → count_of (with_shards ps k each) j ≡ count_of ps j
  count-with_shards long j = ⊎_elim here (λ other. ap (λ (s : ShardsState). length s.each) (of-with_shards_elsewhere j other)) (same_or_other same_text same_text_decides k j)
    where
      by : (t : Bool) → has_primaries ps k ≡ t → count_of (with_shards ps k each) k ≡ count_of ps k
      by true t = ap (λ (s : ShardsState). length s.each) (of-with_shards_here t) ∙ long
      by false t = ap (λ (l : Primaries). count_of l k) (with_shards-absent t)

      here : k ≡ j → count_of (with_shards ps k each) j ≡ count_of ps j
      here e = subst (λ i. count_of (with_shards ps k each) i ≡ count_of ps i) e (by (has_primaries ps k) refl)

-- of two the last one stays
pub with_shards-twice : (ps : Primaries) (k : List ℕ) (a b : List PrimaryState) → with_shards (with_shards ps k a) k b ≡ with_shards ps k b
with_shards-twice ps k a b =
    ap (λ cuts. set_value (same_text k) (with_shards ps k a) (record { cuts = cuts; each = b })) (cuts-with_shards ps k a k)
    ∙ set_value-twice (same_text k) ps (record { cuts = (shards_of ps k).cuts; each = a }) (record { cuts = (shards_of ps k).cuts; each = b })

-- two keyspaces in either order
pub with_shards-order : (ps : Primaries) (k j : List ℕ) (a b : List PrimaryState) → k ≢ j → with_shards (with_shards ps k a) j b ≡ with_shards (with_shards ps j b) k a
with_shards-order ps k j a b other =
    ap (λ cuts. set_value (same_text j) (with_shards ps k a) (record { cuts = cuts; each = b })) (cuts-with_shards ps k a j)
    ∙ set_value-order ps k j (record { cuts = (shards_of ps k).cuts; each = a }) (record { cuts = (shards_of ps j).cuts; each = b }) other
    ∙ ap (λ cuts. set_value (same_text k) (with_shards ps j b) (record { cuts = cuts; each = a })) (sym (cuts-with_shards ps j b k))

-- with what a keyspace has, nothing changes
pub with_shards-same : (ps : Primaries) (k : List ℕ) → with_shards ps k (shards_of ps k).each ≡ ps
with_shards-same ps k = by (has_primaries ps k) refl
  where
    by : (t : Bool) → has_primaries ps k ≡ t → with_shards ps k (shards_of ps k).each ≡ ps
    by true t = set_value_same (same_text k) ps (shards_of ps k) (found_shards ps k t)
    by false t = with_shards-absent ps k (shards_of ps k).each t

-- and set again it is as it was
pub with_shards-back : (ps : Primaries) (k : List ℕ) (each : List PrimaryState) → with_shards (with_shards ps k each) k (shards_of ps k).each ≡ ps
with_shards-back ps k each = with_shards-twice ps k each (shards_of ps k).each ∙ with_shards-same ps k

-- ---- that of one shard does

module _ (ps : Primaries) (k : List ℕ) (n : ℕ) (p : PrimaryState) where
  pub keys-with_primary : keys_of (with_primary ps k n p) ≡ keys_of ps
  keys-with_primary = keys-with_shards ps k (set (shards_of ps k).each n p)

  pub length-with_primary : length (with_primary ps k n p) ≡ length ps
  length-with_primary = length-with_shards ps k (set (shards_of ps k).each n p)

  pub has-with_primary : (j : List ℕ) → has_primaries (with_primary ps k n p) j ≡ has_primaries ps j
  has-with_primary = has-with_shards ps k (set (shards_of ps k).each n p)

  pub cuts-with_primary : (j : List ℕ) → (shards_of (with_primary ps k n p) j).cuts ≡ (shards_of ps j).cuts
  cuts-with_primary = cuts-with_shards ps k (set (shards_of ps k).each n p)

  pub count-with_primary : (j : List ℕ) → count_of (with_primary ps k n p) j ≡ count_of ps j
  count-with_primary = count-with_shards ps k (set (shards_of ps k).each n p) (length-set (shards_of ps k).each n p)

  -- in its shard
  pub with_primary-here : n < count_of ps k → primary_of (with_primary ps k n p) k n ≡ p
  with_primary-here within =
      ap (λ s. primary_in s n) (of-with_shards_here ps k (set (shards_of ps k).each n p) (there_from_count ps k n within))
      ∙ get_or-set_same (shards_of ps k).each n p empty_primary within

  -- behind the last shard nothing changes
  pub with_primary-past : count_of ps k ≤ n → with_primary ps k n p ≡ ps
  with_primary-past past = ap (with_shards ps k) (set_past (shards_of ps k).each n p past) ∙ with_shards-same ps k

  -- in every other shard, of this keyspace or of another
  pub with_primary-other : (j : List ℕ) (m : ℕ) → (k ≡ j → n ≡ m → ⊥) → primary_of (with_primary ps k n p) j m ≡ primary_of ps j m
  with_primary-other j m other =
      ⊎_elim (λ e. subst (λ i. primary_of (with_primary ps k n p) i m ≡ primary_of ps i m) e (beside (other e)))
      (primary-with_shards_elsewhere ps k (set (shards_of ps k).each n p) j m) (same_or_other same_text same_text_decides k j)
    where
      by : n ≢ m → (t : Bool) → has_primaries ps k ≡ t → primary_of (with_primary ps k n p) k m ≡ primary_of ps k m
      by apart true t =
          ap (λ s. primary_in s m) (of-with_shards_here ps k (set (shards_of ps k).each n p) t)
          ∙ get_or-set_other (shards_of ps k).each n m p empty_primary (λ h. apart (sym h))
      by apart false t = ap (λ (l : Primaries). primary_of l k m) (with_shards-absent ps k (set (shards_of ps k).each n p) t)

      beside : n ≢ m → primary_of (with_primary ps k n p) k m ≡ primary_of ps k m
      beside apart = by apart (has_primaries ps k) refl

  -- what is true of the primary before and behind is true of each
  pub with_primary-each : (P : (keyspace : List ℕ) (shard : ℕ) → PrimaryState → PrimaryState → Type 0)
      → ((j : List ℕ) (m : ℕ) (q : PrimaryState) → P j m q q) → (n < count_of ps k → P k n (primary_of ps k n) p)
      → (j : List ℕ) (m : ℕ) → P j m (primary_of ps j m) (primary_of (with_primary ps k n p) j m)
  with_primary-each P stays here j m =
      ⊎_elim (λ e. ⊎_elim (λ f. subst (λ i. P i m (primary_of ps i m) (primary_of (with_primary ps k n p) i m)) e (subst (λ i. P k i (primary_of ps k i) (primary_of (with_primary ps k n p) k i)) f at_it))
      (λ apart. still (λ _ f. apart f)) (cases_eq n m)) (λ apart. still (λ e _. apart e)) (same_or_other same_text same_text_decides k j)
    where
      still : (k ≡ j → n ≡ m → ⊥) → P j m (primary_of ps j m) (primary_of (with_primary ps k n p) j m)
      still other = subst (P j m (primary_of ps j m)) (sym (with_primary-other j m other)) (stays j m (primary_of ps j m))

      at_it : P k n (primary_of ps k n) (primary_of (with_primary ps k n p) k n)
      at_it = ⊎_elim (λ within. subst (P k n (primary_of ps k n)) (sym (with_primary-here within)) (here within))
          (λ past. subst (λ (l : Primaries). P k n (primary_of ps k n) (primary_of l k n)) (sym (with_primary-past past)) (stays k n (primary_of ps k n))) (cases_lt n (count_of ps k))

-- of two the last one stays
pub with_primary-twice : (ps : Primaries) (k : List ℕ) (n : ℕ) (p q : PrimaryState) → with_primary (with_primary ps k n p) k n q ≡ with_primary ps k n q
with_primary-twice ps k n p q = by (has_primaries ps k) refl
  where
    by : (t : Bool) → has_primaries ps k ≡ t → with_primary (with_primary ps k n p) k n q ≡ with_primary ps k n q
    by true t =
        ap (λ (s : ShardsState). with_shards (with_primary ps k n p) k (set s.each n q)) (of-with_shards_here ps k (set (shards_of ps k).each n p) t)
        ∙ with_shards-twice ps k (set (shards_of ps k).each n p) (set (set (shards_of ps k).each n p) n q)
        ∙ ap (with_shards ps k) (set-set (shards_of ps k).each n p q)
    by false t = ap (λ (l : Primaries). with_primary l k n q) (with_shards-absent ps k (set (shards_of ps k).each n p) t)

-- with the one that stands there, nothing changes
pub with_primary-same : (ps : Primaries) (k : List ℕ) (n : ℕ) → with_primary ps k n (primary_of ps k n) ≡ ps
with_primary-same ps k n = ap (with_shards ps k) (set-get_or (shards_of ps k).each n empty_primary) ∙ with_shards-same ps k

-- and set again it is as it was
pub with_primary-back : (ps : Primaries) (k : List ℕ) (n : ℕ) (p : PrimaryState) → with_primary (with_primary ps k n p) k n (primary_of ps k n) ≡ ps
with_primary-back ps k n p = with_primary-twice ps k n p (primary_of ps k n) ∙ with_primary-same ps k n

-- ---- each of a keyspace does

module _ (ps : Primaries) (k : List ℕ) (f : PrimaryState → PrimaryState) where
  pub keys-with_all : keys_of (with_all ps k f) ≡ keys_of ps
  keys-with_all = keys-with_shards ps k (map f (shards_of ps k).each)

  pub length-with_all : length (with_all ps k f) ≡ length ps
  length-with_all = length-with_shards ps k (map f (shards_of ps k).each)

  pub has-with_all : (j : List ℕ) → has_primaries (with_all ps k f) j ≡ has_primaries ps j
  has-with_all = has-with_shards ps k (map f (shards_of ps k).each)

  pub cuts-with_all : (j : List ℕ) → (shards_of (with_all ps k f) j).cuts ≡ (shards_of ps j).cuts
  cuts-with_all = cuts-with_shards ps k (map f (shards_of ps k).each)

  pub count-with_all : (j : List ℕ) → count_of (with_all ps k f) j ≡ count_of ps j
  count-with_all = count-with_shards ps k (map f (shards_of ps k).each) (length-map (shards_of ps k).each f)

  -- in each of its shards
  pub with_all-here : (n : ℕ) → n < count_of ps k → primary_of (with_all ps k f) k n ≡ f (primary_of ps k n)
  with_all-here n within =
      ap (λ s. primary_in s n) (of-with_shards_here ps k (map f (shards_of ps k).each) (there_from_count ps k n within))
      ∙ get_or-map f (shards_of ps k).each n empty_primary empty_primary within

  -- behind the last one there is none still
  pub with_all-past : (n : ℕ) → count_of ps k ≤ n → primary_of (with_all ps k f) k n ≡ empty_primary
  with_all-past n past = primary_past (with_all ps k f) k n (subst (λ c. c ≤ n) (sym (count-with_all k)) past)

  -- in those of other keyspaces
  pub with_all-elsewhere : (j : List ℕ) (n : ℕ) → k ≢ j → primary_of (with_all ps k f) j n ≡ primary_of ps j n
  with_all-elsewhere j n other = primary-with_shards_elsewhere ps k (map f (shards_of ps k).each) j n other

  -- in all that aren't its shards
  pub with_all-other : (j : List ℕ) (n : ℕ) → (k ≡ j → n < count_of ps k → ⊥) → primary_of (with_all ps k f) j n ≡ primary_of ps j n
  with_all-other j n other =
      ⊎_elim (λ e. ⊎_elim (λ within. absurd (other e within)) (λ past. subst (λ i. primary_of (with_all ps k f) i n ≡ primary_of ps i n) e (with_all-past n past ∙ sym (primary_past ps k n past))) (cases_lt n (count_of ps k)))
      (with_all-elsewhere j n) (same_or_other same_text same_text_decides k j)

  -- what is true of a primary before and behind is true of each
  pub with_all-each : (P : (keyspace : List ℕ) (shard : ℕ) → PrimaryState → PrimaryState → Type 0)
      → ((j : List ℕ) (m : ℕ) (q : PrimaryState) → P j m q q) → ((n : ℕ) → n < count_of ps k → P k n (primary_of ps k n) (f (primary_of ps k n)))
      → (j : List ℕ) (m : ℕ) → P j m (primary_of ps j m) (primary_of (with_all ps k f) j m)
  with_all-each P stays here j m =
      ⊎_elim (λ e. ⊎_elim (λ within. subst (λ i. P i m (primary_of ps i m) (primary_of (with_all ps k f) i m)) e (subst (P k m (primary_of ps k m)) (sym (with_all-here m within)) (here m within)))
      (λ past. still (λ _ within. absurd (omega (arith, past, within)))) (cases_lt m (count_of ps k))) (λ apart. still (λ e _. apart e)) (same_or_other same_text same_text_decides k j)
    where
      still : (k ≡ j → m < count_of ps k → ⊥) → P j m (primary_of ps j m) (primary_of (with_all ps k f) j m)
      still other = subst (P j m (primary_of ps j m)) (sym (with_all-other j m other)) (stays j m (primary_of ps j m))

  -- what is true of all before becomes true of all behind, if the change makes it so of its own, and it is so of the others as they are
  pub with_all-all : (P Q : (keyspace : List ℕ) (shard : ℕ) → PrimaryState → Type 0)
      → ((n : ℕ) → n < count_of ps k → P k n (primary_of ps k n) → Q k n (f (primary_of ps k n)))
      → ((j : List ℕ) (m : ℕ) → (k ≡ j → m < count_of ps k → ⊥) → P j m (primary_of ps j m) → Q j m (primary_of ps j m))
      → ((j : List ℕ) (m : ℕ) → P j m (primary_of ps j m)) → (j : List ℕ) (m : ℕ) → Q j m (primary_of (with_all ps k f) j m)
  with_all-all P Q here others before j m =
      ⊎_elim (λ e. ⊎_elim (λ within. subst (λ i. Q i m (primary_of (with_all ps k f) i m)) e (subst (Q k m) (sym (with_all-here m within)) (here m within (before k m))))
      (λ past. still (λ _ within. absurd (omega (arith, past, within)))) (cases_lt m (count_of ps k))) (λ apart. still (λ e _. apart e)) (same_or_other same_text same_text_decides k j)
    where
      still : (k ≡ j → m < count_of ps k → ⊥) → Q j m (primary_of (with_all ps k f) j m)
      still other = subst (Q j m) (sym (with_all-other j m other)) (others j m other (before j m))

-- ---- a keyspace is added

-- the primaries of a new keyspace are empty
pub primary_in-new_shards : (cuts : Cuts) (n : ℕ) → primary_in (new_shards cuts) n ≡ empty_primary
primary_in-new_shards cuts n =
    ⊎_elim (λ below. get_or-replicate (shard_count cuts) n empty_primary empty_primary below)
    (λ past. get_or_past (replicate (shard_count cuts) empty_primary) n empty_primary (subst (λ l. l ≤ n) (sym (length-replicate (shard_count cuts) empty_primary)) past)) (cases_lt n (shard_count cuts))

module _ (ps : Primaries) (k : List ℕ) (cuts : Cuts) (absent : has_primaries ps k ≡ false) where
  pub at-with_keyspace_here : shards_at (with_keyspace ps k cuts) k ≡ Some (new_shards cuts)
  at-with_keyspace_here = lookup-push_here same_text same_text_decides ps k (new_shards cuts) (none_from (shards_at ps k) absent)

  pub of-with_keyspace_here : shards_of (with_keyspace ps k cuts) k ≡ new_shards cuts
  of-with_keyspace_here = shards_from_found (with_keyspace ps k cuts) k (new_shards cuts) at-with_keyspace_here

  pub count-with_keyspace_here : count_of (with_keyspace ps k cuts) k ≡ shard_count cuts
  count-with_keyspace_here = ap (λ (s : ShardsState). length s.each) of-with_keyspace_here ∙ length-replicate (shard_count cuts) empty_primary

  pub primary-with_keyspace_here : (n : ℕ) → primary_of (with_keyspace ps k cuts) k n ≡ empty_primary
  primary-with_keyspace_here n = ap (λ s. primary_in s n) of-with_keyspace_here ∙ primary_in-new_shards cuts n

  -- so that no primary is another one than before
  pub primary-with_keyspace : (j : List ℕ) (n : ℕ) → primary_of (with_keyspace ps k cuts) j n ≡ primary_of ps j n
  primary-with_keyspace j n =
      ⊎_elim (λ e. subst (λ i. primary_of (with_keyspace ps k cuts) i n ≡ primary_of ps i n) e (primary-with_keyspace_here n ∙ sym (primary_past ps k n (let none = absent_count ps k absent in omega (arith, none)))))
      (λ other. ap (λ o. primary_in (unwrap_or o no_shards) n) (lookup-push_elsewhere same_text same_text_decides ps k j (new_shards cuts) other)) (same_or_other same_text same_text_decides k j)

-- whether or not it was there
module _ (ps : Primaries) (k : List ℕ) (cuts : Cuts) where
  pub at-with_keyspace_elsewhere : (j : List ℕ) → k ≢ j → shards_at (with_keyspace ps k cuts) j ≡ shards_at ps j
  at-with_keyspace_elsewhere j other = lookup-push_elsewhere same_text same_text_decides ps k j (new_shards cuts) other

  pub of-with_keyspace_elsewhere : (j : List ℕ) → k ≢ j → shards_of (with_keyspace ps k cuts) j ≡ shards_of ps j
  of-with_keyspace_elsewhere j other = ap (λ o. unwrap_or o no_shards) (at-with_keyspace_elsewhere j other)

  pub count-with_keyspace_elsewhere : (j : List ℕ) → k ≢ j → count_of (with_keyspace ps k cuts) j ≡ count_of ps j
  count-with_keyspace_elsewhere j other = ap (λ (s : ShardsState). length s.each) (of-with_keyspace_elsewhere j other)

  pub length-with_keyspace : length (with_keyspace ps k cuts) ≡ length ps + 1
  length-with_keyspace = length_push ps (k, new_shards cuts)

  -- there are those that were, and this one
  pub has-with_keyspace : has_primaries ps k ≡ false → (j : List ℕ) → has_primaries (with_keyspace ps k cuts) j ≡ cond (same_text k j) true (has_primaries ps j)
  has-with_keyspace absent j = ⊎_elim here there (same_or_other same_text same_text_decides k j)
    where
      here : k ≡ j → has_primaries (with_keyspace ps k cuts) j ≡ cond (same_text k j) true (has_primaries ps j)
      here e =
          subst (λ i. has_primaries (with_keyspace ps k cuts) i ≡ true) e (ap is_some (at-with_keyspace_here ps k cuts absent))
          ∙ ap (λ t. cond t true (has_primaries ps j)) (sym ((same_text_decides k j).1 e))

      there : k ≢ j → has_primaries (with_keyspace ps k cuts) j ≡ cond (same_text k j) true (has_primaries ps j)
      there other =
          ap is_some (at-with_keyspace_elsewhere j other)
          ∙ ap (λ t. cond t true (has_primaries ps j)) (sym (apart same_text same_text_decides k j other))
