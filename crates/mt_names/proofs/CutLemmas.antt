-- What stands before the first mark, and after it.
use Rattle.std.proofs.Common.{◌≡◌, ◌≢◌, ℕ, zero, suc, ◌-◌, ◌<◌, Bool, true, false, eqb, List, [], ◌∷◌, ◌++◌, length, get_or, Option, None, Some, refl, sym, ap, ◌∙◌, ⊎_elim, length-append, arith}
use Rattle.std.proofs.lemmas.Bool.{cases_lt, eqb-true, eq-eqb, ne_eqb}
use Rattle.std.proofs.lemmas.List.{get_or_append_left, get_or-append_right}
use Rattle.mt_names.specs.Keys.{before, after}

-- no byte is the mark
abbrev pub Lacks : ℕ → List ℕ → Type 0
Lacks mark bytes = (i : ℕ) → i < length bytes → get_or bytes i 0 ≢ mark

Lacks-tail : (mark byte : ℕ) (bytes : List ℕ) → Lacks mark (byte ∷ bytes) → Lacks mark bytes
Lacks-tail mark byte bytes lacks i h = lacks (suc i) (omega arith)

Lacks-head : (mark byte : ℕ) (bytes : List ℕ) → Lacks mark (byte ∷ bytes) → eqb byte mark ≡ false
Lacks-head mark byte bytes lacks = ne_eqb byte mark (lacks 0 (omega arith))

-- joined texts lack what each of them does
pub Lacks-append : (mark : ℕ) (xs ys : List ℕ) → Lacks mark xs → Lacks mark ys → Lacks mark (xs ++ ys)
Lacks-append mark xs ys left right i h same =
    ⊎_elim (λ below. left i below (sym (get_or_append_left xs ys 0 i below) ∙ same))
    (λ beyond. right (i - length xs) (omega (arith, length-append xs ys)) (sym (get_or-append_right xs ys (length xs) i 0 refl beyond) ∙ same))
    (cases_lt i (length xs))

pub Lacks-one : (mark byte : ℕ) → byte ≢ mark → Lacks mark (byte ∷ [])
Lacks-one mark byte other zero h = other
Lacks-one mark byte other (suc i) h = absurd (omega arith)

module _ (mark : ℕ) where
  -- a text without a mark is all before it
  pub before-lacks : (bytes : List ℕ) → Lacks mark bytes → before mark bytes ≡ bytes
  before-lacks [] lacks = refl
  before-lacks (b ∷ bs) lacks = rw (Lacks-head mark b bs lacks) (ap (λ l. b ∷ l) (before-lacks bs (Lacks-tail mark b bs lacks)))

  pub after-lacks : (bytes : List ℕ) → Lacks mark bytes → after mark bytes ≡ None
  after-lacks [] lacks = refl
  after-lacks (b ∷ bs) lacks = rw (Lacks-head mark b bs lacks) (after-lacks bs (Lacks-tail mark b bs lacks))

  -- a text is cut at its first mark
  pub before-append : (front rest : List ℕ) → Lacks mark front → before mark (front ++ mark ∷ rest) ≡ front
  before-append [] rest lacks = rw (eq-eqb mark mark refl) refl
  before-append (b ∷ bs) rest lacks = rw (Lacks-head mark b bs lacks) (ap (λ l. b ∷ l) (before-append bs rest (Lacks-tail mark b bs lacks)))

  pub after-append : (front rest : List ℕ) → Lacks mark front → after mark (front ++ mark ∷ rest) ≡ Some rest
  after-append [] rest lacks = rw (eq-eqb mark mark refl) refl
  after-append (b ∷ bs) rest lacks = rw (Lacks-head mark b bs lacks) (after-append bs rest (Lacks-tail mark b bs lacks))

-- a text in two parts with the mark between them, or in one
abbrev pub joined : ℕ → List ℕ → Option (List ℕ) → List ℕ
joined mark front None = front
joined mark front (Some rest) = front ++ mark ∷ rest

joined-longer : (mark b : ℕ) (front : List ℕ) (rest : Option (List ℕ)) → joined mark (b ∷ front) rest ≡ b ∷ joined mark front rest
joined-longer mark b front None = refl
joined-longer mark b front (Some rest) = refl

-- the parts, joined again, are the text
pub joined-before : (mark : ℕ) (bytes : List ℕ) → joined mark (before mark bytes) (after mark bytes) ≡ bytes
joined-before mark [] = refl
joined-before mark (b ∷ bs) = by (joined-before mark bs) (eqb b mark) refl
  where
    by : joined mark (before mark bs) (after mark bs) ≡ bs → (t : Bool) → eqb b mark ≡ t → joined mark (before mark (b ∷ bs)) (after mark (b ∷ bs)) ≡ b ∷ bs
    by again true e = rw e (ap (λ x. x ∷ bs) (sym (eqb-true b mark e)))
    by again false e = rw e (joined-longer mark b (before mark bs) (after mark bs) ∙ ap (λ l. b ∷ l) again)
