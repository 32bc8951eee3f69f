-- The keys of a part by their indices.
use Rattle.std.proofs.Common.{◌≡◌, ℕ, zero, suc, ◌<◌, ◌+◌, ◌*◌, List, [], ◌∷◌, ◌++◌, length, slice_get, Some, refl, ap, arith, ◌∙◌}
use Rattle.mt_model.specs.declared.entries.EntryKey.{EntryKey}
use Rattle.mt_model.specs.Part.{part_keys, table_part_keys}

-- 15 for each table
pub length_part : (source target : List ℕ) (tables : List (List ℕ)) → length (part_keys source target tables) ≡ length tables * 15
length_part source target [] = refl
length_part source target (table ∷ tables) = omega (arith, length_part source target tables)

-- a place of a list behind another
past_front : (front back : List EntryKey) (i n : ℕ) → n ≡ length front + i → slice_get (front ++ back) n ≡ slice_get back i
past_front [] back i n e = let at : n ≡ i = omega (arith, e) in rw at refl
past_front (x ∷ front) back i zero e = absurd (omega (arith, e))
past_front (x ∷ front) back i (suc n) e = past_front front back i n (omega (arith, e))

within_front : (front back : List EntryKey) (i : ℕ) → i < length front → slice_get (front ++ back) i ≡ slice_get front i
within_front [] back i below = absurd (omega (arith, below))
within_front (x ∷ front) back zero below = refl
within_front (x ∷ front) back (suc i) below = within_front front back i (omega (arith, below))

-- a key of the part is one of a table's
pub key_of_part : (source target : List ℕ) (tables : List (List ℕ)) (n q r : ℕ) (table : List ℕ) → n ≡ q * 15 + r → r < 15 → slice_get tables q ≡ Some table
    → slice_get (part_keys source target tables) n ≡ slice_get (table_part_keys source target table) r
key_of_part source target [] n q r table at below is = absurd cc
key_of_part source target (first ∷ tables) n zero r table at below is =
    let same : first ≡ table = cc in
    let here : n ≡ r = omega (arith, at) in
    ap (slice_get (part_keys source target (first ∷ tables))) here
    ∙ within_front (table_part_keys source target first) (part_keys source target tables) r below
    ∙ ap (λ t. slice_get (table_part_keys source target t) r) same
key_of_part source target (first ∷ tables) n (suc q) r table at below is =
    past_front (table_part_keys source target first) (part_keys source target tables) (q * 15 + r) n (omega (arith, at))
    ∙ key_of_part source target tables (q * 15 + r) q r table refl below is
