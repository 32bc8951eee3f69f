-- Places of tables among those named.
use Rattle.std.proofs.Common.{◌≡◌, ◌≢◌, ℕ, zero, suc, ◌<◌, ◌+◌, Bool, true, false, not, ◌&&◌, ◌||◌, cond, eqb, nat_lt, nat_le, List, [], ◌∷◌, length, get_or, AllPairs, refl, sym, ap, subst, ◌∙◌, arith}
use Rattle.std.proofs.lemmas.Bool.{and_right, eqb-false, eqb-true, false_from_ne_true, le-ltb, lt-ltb, ltb-false, ltb-true, ne_eqb, or_right, true≢false}
use Rattle.mt_names.specs.Names.{same_text}
use Rattle.mt_names.proofs.SameLemmas.{same_text_decides}
use Rattle.mt_plain.specs.Plain.{among}
use Rattle.mt_plain.specs.Writes.{is_applied, place_of}
use Rattle.mt_stream.specs.Streams.{IsPlaced, copied_from}
use Rattle.mt_stream.specs.declared.stream.CopiedRange.{CopiedRange}
use Rattle.mt_stream.specs.declared.stream.CopiedRange.TheVariants.{NotBegun, UpTo, Ended}

pub same-self : (t : List ℕ) → same_text t t ≡ true
same-self t = (same_text_decides t t).1 refl

pub same-apart : (s t : List ℕ) → s ≢ t → same_text s t ≡ false
same-apart s t apart = false_from_ne_true (same_text s t) (λ h. apart ((same_text_decides s t).0 h))

-- each table stands once
abbrev pub Distinct : List (List ℕ) → Type 0
Distinct [] = Unit {0}
Distinct (x ∷ xs) = (among xs x ≡ false) × Distinct xs

among-none : (xs : List (List ℕ)) (x : List ℕ) → ((k : ℕ) (d : List ℕ) → k < length xs → get_or xs k d ≢ x) → among xs x ≡ false
among-none [] x apart = refl
among-none (y ∷ ys) x apart =
    rw (same-apart y x (apart 0 [] (omega arith))) (among-none ys x (λ k d h. apart (suc k) d (omega arith)))

pub distinct_from : (xs : List (List ℕ)) → AllPairs (λ a b. a ≢ b) xs → Distinct xs
distinct_from [] pairs = tt
distinct_from (x ∷ xs) pairs = (
  among-none xs x (λ k d h e. pairs 0 (suc k) d (omega arith) (omega arith) (sym e)),
  distinct_from xs (λ i j d low high. pairs (suc i) (suc j) d (omega arith) (omega arith)),
)

-- the table at a place is named, and has this place
pub among-at : (xs : List (List ℕ)) (i : ℕ) → i < length xs → among xs (get_or xs i []) ≡ true
among-at [] i l = absurd (omega arith)
among-at (y ∷ ys) zero l = rw (same-self y) refl
among-at (y ∷ ys) (suc i) l = or_right (same_text y (get_or ys i [])) (among ys (get_or ys i [])) (among-at ys i (omega arith))

pub place_of-at : (xs : List (List ℕ)) (i : ℕ) → Distinct xs → i < length xs → place_of xs (get_or xs i []) ≡ i
place_of-at [] i distinct l = absurd (omega arith)
place_of-at (x ∷ xs) zero distinct l = rw (same-self x) refl
place_of-at (x ∷ xs) (suc i) distinct l =
    let apart : same_text x (get_or xs i []) ≡ false = same-apart x (get_or xs i []) (λ e. true≢false (sym (among-at xs i (omega arith)) ∙ ap (among xs) (sym e) ∙ distinct.0)) in
    let again = place_of-at xs i distinct.1 (omega arith) in
    rw apart (omega (arith, again))

-- a table that is named stands at its place, which is before the end
pub among-place : (xs : List (List ℕ)) (t : List ℕ) → among xs t ≡ nat_lt (place_of xs t) (length xs)
among-place [] t = refl
among-place (x ∷ xs) t = by (same_text x t) (among-place xs t)
  where
    by : (b : Bool) → among xs t ≡ nat_lt (place_of xs t) (length xs) → (b || among xs t) ≡ nat_lt (cond (not b) (1 + place_of xs t) 0) (length (x ∷ xs))
    by true again = sym (lt-ltb 0 (suc (length xs)) (omega arith))
    by false again = again ∙ less (nat_lt (place_of xs t) (length xs)) refl
      where
        less : (b : Bool) → nat_lt (place_of xs t) (length xs) ≡ b → nat_lt (place_of xs t) (length xs) ≡ nat_lt (1 + place_of xs t) (suc (length xs))
        less true h = let l = ltb-true (place_of xs t) (length xs) h in h ∙ sym (lt-ltb (1 + place_of xs t) (suc (length xs)) (omega arith))
        less false h = let l = ltb-false (place_of xs t) (length xs) h in h ∙ sym (le-ltb (1 + place_of xs t) (suc (length xs)) (omega arith))

pub at-place : (xs : List (List ℕ)) (t : List ℕ) → place_of xs t < length xs → get_or xs (place_of xs t) [] ≡ t
at-place [] t l = absurd (omega arith)
at-place (x ∷ xs) t l = by (at-place xs t) (same_text x t) refl
  where
    by : (place_of xs t < length xs → get_or xs (place_of xs t) [] ≡ t) → (b : Bool) → same_text x t ≡ b → get_or (x ∷ xs) (place_of (x ∷ xs) t) [] ≡ t
    by again true same = rw same ((same_text_decides x t).0 same)
    by again false same =
        let h : 1 + place_of xs t < suc (length xs) = subst (λ b. cond (not b) (1 + place_of xs t) 0 < suc (length xs)) same l in
        rw (same, one-plus (place_of xs t)) (again (omega (arith, h)))
      where
        one-plus : (n : ℕ) → 1 + n ≡ suc n
        one-plus n = omega arith

-- whether an entry is written, by the place of its table
abbrev pub by_place : (many place : ℕ) → CopiedRange → ℕ → Bool
by_place many place NotBegun key = false
by_place many place (UpTo last k) key = nat_lt place last || (eqb place last && nat_le key k)
by_place many place Ended key = nat_lt place many

pub applied_by_place : (tables : List (List ℕ)) (range : CopiedRange) (table : List ℕ) (key : ℕ) → Distinct tables → IsPlaced tables range
    → is_applied tables (copied_from tables range) table key
    ≡ by_place (length tables) (place_of tables table) range key
applied_by_place tables NotBegun table key distinct placed = and_right (among tables table) false refl
applied_by_place tables Ended table key distinct placed = by (among tables table) (among-place tables table)
  where
    by : (b : Bool) → b ≡ nat_lt (place_of tables table) (length tables) → (b && true) ≡ nat_lt (place_of tables table) (length tables)
    by true e = e
    by false e = e
applied_by_place tables (UpTo last k) table key distinct placed = rw (place_of-at tables last distinct placed) (by (among tables table) refl)
  where
    by : (b : Bool) → among tables table ≡ b → (b && (nat_lt (place_of tables table) last || (same_text table (get_or tables last []) && nat_le key k))) ≡ (nat_lt (place_of tables table) last || (eqb (place_of tables table) last && nat_le key k))
    by false out =
        let behind = ltb-false (place_of tables table) (length tables) (sym (among-place tables table) ∙ out) in
        rw (le-ltb (place_of tables table) last (omega (arith, behind, placed)), ne_eqb (place_of tables table) last (λ e. omega (arith, behind, placed, e))) refl
    by true here = ap (λ s. nat_lt (place_of tables table) last || (s && nat_le key k)) (same (eqb (place_of tables table) last) refl)
      where
        within : place_of tables table < length tables
        within = ltb-true (place_of tables table) (length tables) (sym (among-place tables table) ∙ here)

        same : (b : Bool) → eqb (place_of tables table) last ≡ b → same_text table (get_or tables last []) ≡ eqb (place_of tables table) last
        same true e =
            let at = eqb-true (place_of tables table) last e in
            let is : get_or tables last [] ≡ table = ap (λ i. get_or tables i []) (sym at) ∙ at-place tables table within in
            rw is (same-self table) ∙ sym e
        same false e =
            same-apart table (get_or tables last []) (λ is. eqb-false (place_of tables table) last e (ap (place_of tables) is ∙ place_of-at tables last distinct placed)) ∙ sym e

pub written_up_to : (tables : List (List ℕ)) (range : CopiedRange) (last k : ℕ) (table : List ℕ) (key place : ℕ) → range ≡ UpTo last k → place ≡ place_of tables table → Distinct tables → IsPlaced tables range
    → is_applied tables (copied_from tables range) table key ≡ (nat_lt place last || (eqb place last && nat_le key k))
written_up_to tables range last k table key place is at distinct placed =
    applied_by_place tables range table key distinct placed ∙ rw (is, at) refl

pub written_ended : (tables : List (List ℕ)) (range : CopiedRange) (table : List ℕ) (key place : ℕ) → range ≡ Ended → place ≡ place_of tables table → Distinct tables → IsPlaced tables range
    → is_applied tables (copied_from tables range) table key ≡ nat_lt place (length tables)
written_ended tables range table key place is at distinct placed =
    applied_by_place tables range table key distinct placed ∙ rw (is, at) refl
