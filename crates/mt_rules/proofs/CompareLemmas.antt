-- The order of keys is that of their types, then of their keyspaces, then of their tables.
use Rattle.std.proofs.Common.{◌≡◌, ℕ, suc, List, [], ◌∷◌, ◌++◌, length, Option, None, Some, arith, refl, sym, ap, ◌∙◌, is_eq, Ordering, Less, Equal, Greater}
use Rattle.std.proofs.lemmas.Map.Text.{is_eq-slice_cmp}
use Rattle.std.proofs.lemmas.Slice.Eq.{bytes_eq-Decides}
use Rattle.std.specs.Cmp.{nat_cmp_is}
use Rattle.std.specs.Cmp.Lexicographic.{slice_cmp}
use Rattle.std.specs.Ordering.{nat_cmp, ordering_then}
use Rattle.mt_names.specs.declared.types.TabletType.{TabletType}
use Rattle.mt_names.specs.Hashes.{type_number}
use Rattle.mt_model.specs.Order.{keyspace_code}

abbrev cmp : List ℕ → List ℕ → Ordering
cmp a b = slice_cmp nat_cmp a b

then_assoc : (a b c : Ordering) → ordering_then (ordering_then a b) c ≡ ordering_then a (ordering_then b c)
then_assoc Less b c = refl
then_assoc Equal b c = refl
then_assoc Greater b c = refl

-- of lists of one length, with others behind them
cmp-append : (a b c d : List ℕ) → length a ≡ length b → cmp (a ++ c) (b ++ d) ≡ ordering_then (cmp a b) (cmp c d)
cmp-append [] [] c d e = refl
cmp-append [] (y ∷ b) c d e = absurd cc
cmp-append (x ∷ a) [] c d e = absurd cc
cmp-append (x ∷ a) (y ∷ b) c d e =
    let rest : length a ≡ length b = cc in
    ap (ordering_then (nat_cmp x y)) (cmp-append a b c d rest) ∙ sym (then_assoc (nat_cmp x y) (cmp a b) (cmp c d))

below : (n : ℕ) → nat_cmp 0 (suc n) ≡ Less
below n = sym (nat_cmp_is 0 (suc n) Less (omega arith))

above : (n : ℕ) → nat_cmp (suc n) 0 ≡ Greater
above n = sym (nat_cmp_is (suc n) 0 Greater (omega arith))

same_number : (m n : ℕ) → nat_cmp (suc m) (suc n) ≡ Equal → m ≡ n
same_number m n is =
    let a : List ℕ = suc m ∷ [] in
    let b : List ℕ = suc n ∷ [] in
    let e : a ≡ b = (bytes_eq-Decides a b).0 (sym (is_eq-slice_cmp a b) ∙ ap (λ o. is_eq (ordering_then o Equal)) is) in
    let h : suc m ≡ suc n = cc in omega (arith, h)

keyspaces_first : (k l : Option (List ℕ)) (t u : List ℕ) → cmp (keyspace_code k ++ t) (keyspace_code l ++ u) ≡ ordering_then (cmp (keyspace_code k) (keyspace_code l)) (cmp t u)
keyspaces_first None None t u = refl
keyspaces_first None (Some l) t u = rw (below (length l)) refl
keyspaces_first (Some k) None t u = rw (above (length k)) refl
keyspaces_first (Some k) (Some l) t u = by (nat_cmp (suc (length k)) (suc (length l))) refl
  where
    by : (o : Ordering) → nat_cmp (suc (length k)) (suc (length l)) ≡ o
        → ordering_then (nat_cmp (suc (length k)) (suc (length l))) (cmp (k ++ t) (l ++ u)) ≡ ordering_then (ordering_then (nat_cmp (suc (length k)) (suc (length l))) (cmp k l)) (cmp t u)
    by Less is = rw is refl
    by Greater is = rw is refl
    by Equal is = let same : length k ≡ length l = same_number (length k) (length l) is in rw is (cmp-append k l t u same)

pub parts_in_turn : (s r : Option TabletType) (k l : Option (List ℕ)) (t u : List ℕ)
    → ordering_then (ordering_then (nat_cmp (type_number s) (type_number r)) (cmp (keyspace_code k) (keyspace_code l))) (cmp t u)
    ≡ cmp (type_number s ∷ keyspace_code k ++ t) (type_number r ∷ keyspace_code l ++ u)
parts_in_turn s r k l t u =
    then_assoc (nat_cmp (type_number s) (type_number r)) (cmp (keyspace_code k) (keyspace_code l)) (cmp t u)
    ∙ ap (ordering_then (nat_cmp (type_number s) (type_number r))) (sym (keyspaces_first k l t u))
