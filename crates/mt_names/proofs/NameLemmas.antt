-- A text is read as a name exactly where it is one.
use Rattle.std.proofs.Common.{◌≡◌, ◌≢◌, ℕ, Bool, true, false, not, eqb, ltb, List, [], ◌∷◌, length, get_or, slice_get, position, Option, Some, None, Result, Ok, Err, IsOk, IfOk, ◌↔◌, unwrap_or, refl, sym, ap, ◌∙◌, subst, is_ok, arith, ⊎_elim}
use Rattle.std.proofs.lemmas.Bool.{true≢false, not-false, ltb-false, le-ltb, eqb-true, eqb-false, eq-eqb, ne_eqb, cases_lt}
use Rattle.std.proofs.lemmas.List.Sums.{position_or_len_is, fails_before_first}
use Rattle.std.proofs.lemmas.Grind.{common_steps}
use Rattle.std.specs.List.{AllPass, starts_with, position_or_len}
use Rattle.mt_names.specs.declared.fault.NameFault.{NameFault}
use Rattle.mt_names.specs.declared.text.Alphabet.{Alphabet}
use Rattle.mt_names.specs.Names.{IsName, allows, bad_place, dash, longest_name, read_name}
use Rattle.mt_names.proofs.ResultLemmas.{accepts}

-- where every element passes, none is refused
position-none : (p : ℕ → Bool) (xs : List ℕ) → AllPass p xs → position (λ x. not (p x)) xs ≡ None
position-none p xs all =
    let e : position_or_len (λ x. not (p x)) xs ≡ length xs =
    position_or_len_is (λ x. not (p x)) xs (length xs) 0 (omega arith) (λ k h. ap not (all k 0 h)) (λ h. absurd (omega arith)) in
    grind (arith, common_steps)

-- and the other way round
passes_from_position : (p : ℕ → Bool) (xs : List ℕ) → position (λ x. not (p x)) xs ≡ None → AllPass p xs
passes_from_position p xs none k d h =
    ⊎_elim (λ below. absurd (grind (arith, common_steps)))
    (λ beyond. not-false (p (get_or xs k d)) (fails_before_first (λ x. not (p x)) xs k d (omega arith)))
    (cases_lt (position_or_len (λ x. not (p x)) xs) (length xs))

module _ (alphabet : Alphabet) where
  -- a name has no bad byte
  bad_place-name : (bytes : List ℕ) → slice_get bytes 0 ≢ Some dash → AllPass (allows alphabet) bytes → bad_place alphabet bytes ≡ None
  bad_place-name [] first each = refl
  bad_place-name (b ∷ bs) first each = by (eqb dash b) refl
    where
      by : (t : Bool) → eqb dash b ≡ t → bad_place alphabet (b ∷ bs) ≡ None
      by true e = absurd (first (ap Some (sym (eqb-true dash b e))))
      by false e = rw e (position-none (allows alphabet) (b ∷ bs) each)

  -- a text without a bad byte begins with no `-` and has allowed bytes alone
  first_from_bad_place : (bytes : List ℕ) → bad_place alphabet bytes ≡ None → slice_get bytes 0 ≢ Some dash
  first_from_bad_place [] none first = cc
  first_from_bad_place (b ∷ bs) none first = by (eqb dash b) refl
    where
      by : (t : Bool) → eqb dash b ≡ t → ⊥
      by true e = absurd (let h = rw e at none in cc)
      by false e =
          let same : dash ≡ b = sym (ap (λ o. unwrap_or o 0) first) in absurd (true≢false (sym (eq-eqb dash b same) ∙ e))

  each_from_bad_place : (bytes : List ℕ) → bad_place alphabet bytes ≡ None → AllPass (allows alphabet) bytes
  each_from_bad_place bytes none = by (starts_with eqb bytes (dash ∷ [])) refl
    where
      by : (t : Bool) → starts_with eqb bytes (dash ∷ []) ≡ t → AllPass (allows alphabet) bytes
      by true e = absurd (let h = rw e at none in cc)
      by false e = passes_from_position (allows alphabet) bytes (rw e at none)

  -- a name is read as itself
  pub read_name-name : (bytes : List ℕ) → IsName alphabet bytes → read_name alphabet bytes ≡ Ok bytes
  read_name-name bytes name =
      let empty : eqb (length bytes) 0 ≡ false = ne_eqb (length bytes) 0 (λ e. omega (arith, name.not_empty)) in
      let long : ltb longest_name (length bytes) ≡ false = le-ltb longest_name (length bytes) name.not_long in
      rw (empty, long, bad_place-name bytes name.first name.each)

  -- what is read is a name, and the whole text
  pub name_from_read : (bytes read : List ℕ) → read_name alphabet bytes ≡ Ok read → IsName alphabet bytes × (read ≡ bytes)
  name_from_read bytes read e = by (eqb (length bytes) 0) refl (ltb longest_name (length bytes)) refl (bad_place alphabet bytes) refl
    where
      by : (t : Bool) → eqb (length bytes) 0 ≡ t → (u : Bool) → ltb longest_name (length bytes) ≡ u → (o : Option ℕ) → bad_place alphabet bytes ≡ o → IsName alphabet bytes × (read ≡ bytes)
      by true empty u long o bad = absurd (let h = rw empty at e in cc)
      by false empty true long o bad = absurd (let h = rw (empty, long) at e in cc)
      by false empty false long (Some place) bad = absurd (let h = rw (empty, long, bad) at e in cc)
      by false empty false long None bad = (
        record {
          not_empty = let h = eqb-false (length bytes) 0 empty in omega arith;
          not_long = ltb-false longest_name (length bytes) long;
          first = first_from_bad_place bytes bad;
          each = each_from_bad_place bytes bad;
        },
        let h = rw (empty, long, bad) at e in cc,
      )

-- a text is read exactly where it is a name
pub read_accepts : (alphabet : Alphabet) (bytes : List ℕ) (r : Result (List ℕ) NameFault) → r ≡ read_name alphabet bytes → IsOk r ↔ IsName alphabet bytes
read_accepts alphabet bytes r e =
    accepts (IsName alphabet bytes) (read_name alphabet bytes) r e (λ read is. (name_from_read alphabet bytes read is).0) (λ name. ap is_ok (read_name-name alphabet bytes name))

-- and what is read is a name
pub read_is_name : (alphabet : Alphabet) (bytes : List ℕ) (r : Result (List ℕ) NameFault) → r ≡ read_name alphabet bytes → IfOk r (IsName alphabet)
read_is_name alphabet bytes (Ok read) e = let both = name_from_read alphabet bytes read (sym e) in subst (IsName alphabet) (sym both.1) both.0
read_is_name alphabet bytes (Err fault) e = tt
