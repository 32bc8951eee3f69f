-- Primaries that are changed one after the other.
use Rattle.std.proofs.Common.{◌≡◌, ℕ, zero, suc, ◌+◌, ◌<◌, ◌≤◌, true, List, [], ◌∷◌, get_or, length, map, set, OnErr, Result, Ok, Err, refl, sym, ap, ◌∙◌, arith}
use Rattle.std.proofs.lemmas.Bool.{true≢false}
use Rattle.std.specs.Result.{is_err}
use Rattle.mt_primary.specs.Primary.{PrimaryState, empty_primary}
use Rattle.mt_moves.specs.Target.{changed_to}

module _ (change : PrimaryState → PrimaryState) where
  -- the next one is as it was
  pub still : (n : ℕ) (ps : List PrimaryState) (d : PrimaryState) → get_or (changed_to change n ps) n d ≡ get_or ps n d
  still zero ps d = refl
  still (suc n) [] d = refl
  still (suc n) (p ∷ ps) d = still n ps d

  -- and is changed then
  one-more : (n : ℕ) (ps : List PrimaryState) (d : PrimaryState) → n < length ps → set (changed_to change n ps) n (change (get_or ps n d)) ≡ changed_to change (suc n) ps
  one-more n [] d within = absurd (omega (arith, within))
  one-more zero (p ∷ ps) d within = refl
  one-more (suc n) (p ∷ ps) d within = ap (λ l. change p ∷ l) (one-more n ps d (omega (arith, within)))

  pub changed-next : (ps now : List PrimaryState) (n : ℕ) (d p : PrimaryState) → n < length ps → now ≡ changed_to change n ps → p ≡ change (get_or now n d) → set now n p ≡ changed_to change (n + 1) ps
  changed-next ps now n d p within so_far is =
      let next : suc n ≡ n + 1 = omega arith in
      ap (set now n) is ∙ ap (λ l. set l n (change (get_or l n d))) so_far ∙ ap (λ q. set (changed_to change n ps) n (change q)) (still n ps d)
      ∙ one-more n ps d within ∙ ap (λ k. changed_to change k ps) next

  -- all of them
  pub changed-all : (n : ℕ) (ps : List PrimaryState) → length ps ≤ n → changed_to change n ps ≡ map change ps
  changed-all zero [] all = refl
  changed-all (suc n) [] all = refl
  changed-all zero (p ∷ ps) all = absurd (omega (arith, all))
  changed-all (suc n) (p ∷ ps) all = ap (λ l. change p ∷ l) (changed-all n ps (omega (arith, all)))

module _ (change next : PrimaryState → PrimaryState) where
  -- what is changed back is as it was
  pub changed-back : (n : ℕ) (ps : List PrimaryState)
      → ((i : ℕ) → i < length ps → next (change (get_or ps i empty_primary)) ≡ get_or ps i empty_primary) → changed_to next n (changed_to change n ps) ≡ ps
  changed-back zero ps back = refl
  changed-back (suc n) [] back = refl
  changed-back (suc n) (p ∷ ps) back =
      ap (λ q. q ∷ changed_to next n (changed_to change n ps)) (back 0 (omega arith))
      ∙ ap (λ l. p ∷ l) (changed-back n ps (λ i within. back (suc i) (omega (arith, within))))

  -- two changes of all
  pub changed-twice : (ps : List PrimaryState) → map next (map change ps) ≡ map (λ p. next (change p)) ps
  changed-twice [] = refl
  changed-twice (p ∷ ps) = ap (λ l. next (change p) ∷ l) (changed-twice ps)

  -- which leave them as they were
  pub all-back : (ps : List PrimaryState)
      → ((i : ℕ) → i < length ps → next (change (get_or ps i empty_primary)) ≡ get_or ps i empty_primary) → map next (map change ps) ≡ ps
  all-back [] back = refl
  all-back (p ∷ ps) back =
      ap (λ q. q ∷ map next (map change ps)) (back 0 (omega arith)) ∙ ap (λ l. p ∷ l) (all-back ps (λ i within. back (suc i) (omega (arith, within))))

-- what holds where there is a fault
pub where_err : {T E P : Type 0} (r : Result T E) → is_err r ≡ true → OnErr r P → P
where_err (Ok value) is holds = absurd (true≢false (sym is))
where_err (Err fault) is holds = holds
