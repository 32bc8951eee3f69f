-- The keys of a part: none stands twice, and each has a keyspace where both sides are there.
use Rattle.std.proofs.Common.{◌≡◌, ◌≢◌, ℕ, ◌<◌, ◌+◌, true, false, cond, List, [], ◌∷◌, ◌++◌, map, Option, None, Some, is_some, All, AllPairs, slice_index_or, refl, sym, ap, ◌∙◌, zero, suc, arith}
use Rattle.std.proofs.lemmas.List.{get_or-map}
use Rattle.std.proofs.lemmas.List.Elements.{All-append, All-from_recursion, All-head, All-nil, All-tail}
use Rattle.std.proofs.lemmas.List.Kept.{AllPairs-cons}
use Rattle.mt_names.specs.Hashes.{type_number}
use Rattle.mt_names.specs.Names.{same_text}
use Rattle.mt_names.proofs.EntryLemmas.{apart as differs}
use Rattle.mt_names.proofs.SameLemmas.{same_text_decides}
use Rattle.mt_model.specs.declared.entries.EntryKey.{EntryKey}
use Rattle.mt_model.specs.declared.entries.EntryKey.TheVariants as about
use Rattle.mt_model.specs.Part.{part_keys, table_part_keys, with_places}
use Rattle.mt_model.specs.Topology.{TopologyState, has_place, keyspace_at}
use Rattle.mt_model.proofs.PlaceLemmas.{has_keyspace, places_made}

-- ---- where both sides are there

keyspaces_there : (t : TopologyState) (source target : List ℕ) (tables : List (List ℕ)) → is_some (keyspace_at t.keyspaces source) ≡ true → is_some (keyspace_at t.keyspaces target) ≡ true → All (λ k. has_keyspace t k ≡ true) (part_keys source target tables)
keyspaces_there t source target [] at_source at_target = All-nil (λ k. has_keyspace t k ≡ true)
keyspaces_there t source target (table ∷ tables) at_source at_target =
    All-append (λ k. has_keyspace t k ≡ true) (table_part_keys source target table) (part_keys source target tables)
    (All-from_recursion (λ k. has_keyspace t k ≡ true) (table_part_keys source target table) (refl, (refl, (refl, (refl, (refl, (refl, (refl, (refl, (refl, (refl, (refl, (refl, (at_source, (at_target, (at_target, tt))))))))))))))))
    (keyspaces_there t source target tables at_source at_target)

pub part_places : (t : TopologyState) (source target : List ℕ) (tables : List (List ℕ)) → is_some (keyspace_at t.keyspaces source) ≡ true → is_some (keyspace_at t.keyspaces target) ≡ true
    → All (λ k. has_place (with_places t (part_keys source target tables)) k ≡ true) (part_keys source target tables)
part_places t source target tables at_source at_target = places_made t (part_keys source target tables) (keyspaces_there t source target tables at_source at_target)

-- ---- none stands twice

-- the table that a key is about
abbrev pub table_of : EntryKey → List ℕ
table_of (about.Rule key) = key.table
table_of (about.Denied keyspace table) = table
table_of (about.Present keyspace table) = table

-- the place of a key among those of its table
abbrev side_number : List ℕ → Option (List ℕ) → ℕ
side_number source None = 0
side_number source (Some keyspace) = cond (same_text source keyspace) 4 8

abbrev number : List ℕ → EntryKey → ℕ
number source (about.Rule key) = side_number source key.keyspace + type_number key.tablet_type
number source (about.Denied keyspace table) = cond (same_text source keyspace) 12 13
number source (about.Present keyspace table) = 14

abbrev up_from : ℕ → ℕ → List ℕ
up_from n zero = []
up_from n (suc more) = n ∷ up_from (suc n) more

at_up : (n more i d : ℕ) → i < more → slice_index_or (up_from n more) i d ≡ n + i
at_up n zero i d below = absurd (omega arith)
at_up n (suc more) zero d below = omega arith
at_up n (suc more) (suc i) d below = at_up (suc n) more i d (omega arith) ∙ omega arith

numbers : (source target table : List ℕ) → source ≢ target → map (number source) (table_part_keys source target table) ≡ up_from 0 15
numbers source target table apart = rw (here, there) refl
  where
    here : same_text source source ≡ true
    here = (same_text_decides source source).1 refl

    there : same_text source target ≡ false
    there = differs same_text same_text_decides source target apart

number_at : (source target table : List ℕ) → source ≢ target → (i : ℕ) (d : EntryKey) → i < 15 → number source (slice_index_or (table_part_keys source target table) i d) ≡ i
number_at source target table apart i d inside =
    let from_zero : 0 + i ≡ i = omega arith in
    sym (get_or-map (number source) (table_part_keys source target table) i d 0 inside) ∙ ap (λ l. slice_index_or l i 0) (numbers source target table apart) ∙ at_up 0 15 i 0 inside ∙ from_zero

table_distinct : (source target table : List ℕ) → source ≢ target → AllPairs (λ a b. a ≢ b) (table_part_keys source target table)
table_distinct source target table apart i j d below inside same =
    absurd (omega (arith, below, sym (number_at source target table apart i d (omega arith)) ∙ ap (number source) same ∙ number_at source target table apart j d inside))

-- keys of a table, and keys of others
about_it : (source target table : List ℕ) → All (λ k. table_of k ≡ table) (table_part_keys source target table)
about_it source target table = All-from_recursion (λ k. table_of k ≡ table) (table_part_keys source target table) (refl, (refl, (refl, (refl, (refl, (refl, (refl, (refl, (refl, (refl, (refl, (refl, (refl, (refl, (refl, tt)))))))))))))))

about_others : (source target table : List ℕ) (tables : List (List ℕ)) → All (λ t. table ≢ t) tables → All (λ k. table ≢ table_of k) (part_keys source target tables)
about_others source target table [] others = All-nil (λ k. table ≢ table_of k)
about_others source target table (t ∷ ts) others =
    All-append (λ k. table ≢ table_of k) (table_part_keys source target t) (part_keys source target ts)
    (λ i d inside e. All-head (λ o. table ≢ o) t ts others (e ∙ about_it source target t i d inside))
    (about_others source target table ts (All-tail (λ o. table ≢ o) t ts others))

AllPairs-append : (xs ys : List EntryKey) → AllPairs (λ a b. a ≢ b) xs → AllPairs (λ a b. a ≢ b) ys → All (λ x. All (λ y. x ≢ y) ys) xs → AllPairs (λ a b. a ≢ b) (xs ++ ys)
AllPairs-append [] ys front back across = back
AllPairs-append (x ∷ xs) ys front back across =
    AllPairs-cons (λ a b. a ≢ b) x (xs ++ ys)
    (All-append (λ y. x ≢ y) xs ys (λ j d inside. front zero (suc j) d (omega arith) (omega arith)) (All-head (λ k. All (λ y. k ≢ y) ys) x xs across))
    (AllPairs-append xs ys (λ i j d below inside. front (suc i) (suc j) d (omega arith) (omega arith)) back (All-tail (λ k. All (λ y. k ≢ y) ys) x xs across))

pub part_distinct : (source target : List ℕ) (tables : List (List ℕ)) → source ≢ target → AllPairs (λ a b. a ≢ b) tables → AllPairs (λ a b. a ≢ b) (part_keys source target tables)
part_distinct source target [] apart distinct = λ i j d below inside. absurd (omega arith)
part_distinct source target (table ∷ tables) apart distinct =
    AllPairs-append (table_part_keys source target table) (part_keys source target tables) (table_distinct source target table apart)
    (part_distinct source target tables apart (λ i j d below inside. distinct (suc i) (suc j) d (omega arith) (omega arith)))
    (λ i d inside j e within same.
    about_others source target table tables (λ n o far. distinct zero (suc n) o (omega arith) (omega arith)) j e within
    (sym (about_it source target table i d inside) ∙ ap table_of same))
