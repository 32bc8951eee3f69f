-- Lists of live workflows, of which no two share a name or a table.
use Rattle.std.proofs.Common.{◌≡◌, ◌≢◌, ◌⊎◌, inl, inr, ℕ, Bool, true, false, cond, List, [], ◌∷◌, ◌++◌, map, filter, find, Option, None, Some, option_map, refl, sym, ap, ◌∙◌, subst}
use Rattle.std.proofs.lemmas.Bool.{true≢false}
use Rattle.std.specs.List.{AllByRecursion, list_any}
use Rattle.std.specs.Prelude.{⊤, ◌||◌}
use Rattle.mt_names.specs.Names.{same_text}
use Rattle.mt_names.proofs.EntryLemmas.{apart, other_from}
use Rattle.mt_names.proofs.SameLemmas.{same_text_decides}
use Rattle.mt_plain.specs.Plain.{Live, moves}
use Rattle.mt_laws.specs.Changes.{HasSides}

-- ---- lists

module _ {X : Type 0} where
  abbrev pub IsIn : X → List X → Type 0
  IsIn x [] = ⊥
  IsIn x (y ∷ ys) = (y ≡ x) ⊎ IsIn x ys

  pub in_all : (P : X → Type 0) (xs : List X) (x : X) → AllByRecursion P xs → IsIn x xs → P x
  in_all P [] x all is = absurd is
  in_all P (y ∷ ys) x all (inl e) = subst P e all.0
  in_all P (y ∷ ys) x all (inr is) = in_all P ys x all.1 is

  pub all_from_in : (P : X → Type 0) (xs : List X) → ((x : X) → IsIn x xs → P x) → AllByRecursion P xs
  all_from_in P [] each = tt
  all_from_in P (x ∷ xs) each = (each x (inl refl), all_from_in P xs (λ y is. each y (inr is)))

  pub find_some : (test : X → Bool) (xs : List X) (x : X) → find test xs ≡ Some x → IsIn x xs × (test x ≡ true)
  find_some test [] x found = absurd cc
  find_some test (y ∷ ys) x found = by (find_some test ys x) (test y) refl
    where
      by : (find test ys ≡ Some x → IsIn x ys × (test x ≡ true)) → (t : Bool) → test y ≡ t → IsIn x (y ∷ ys) × (test x ≡ true)
      by again true t = let is : Some y ≡ Some x = rw t at found in let e : y ≡ x = cc in (inl e, ap test (sym e) ∙ t)
      by again false t = let r = again (rw t at found) in (inr r.0, r.1)

  pub find_none : (test : X → Bool) (xs : List X) → find test xs ≡ None → (x : X) → IsIn x xs → test x ≡ false
  find_none test [] none x is = absurd is
  find_none test (y ∷ ys) none x is = by (λ h. find_none test ys h x) (test y) refl is
    where
      by : (find test ys ≡ None → IsIn x ys → test x ≡ false) → (t : Bool) → test y ≡ t → (y ≡ x) ⊎ IsIn x ys → test x ≡ false
      by again true t i = let h : Some y ≡ None = rw t at none in absurd cc
      by again false t (inl e) = ap test (sym e) ∙ t
      by again false t (inr i) = again (rw t at none) i

  pub find_nowhere : (test : X → Bool) (xs : List X) → ((x : X) → IsIn x xs → test x ≡ false) → find test xs ≡ None
  find_nowhere test [] each = refl
  find_nowhere test (y ∷ ys) each = rw (each y (inl refl)) (find_nowhere test ys (λ x is. each x (inr is)))

  pub find-map : (test : X → Bool) (f : X → X) (xs : List X) → ((x : X) → test (f x) ≡ test x) → find test (map f xs) ≡ option_map f (find test xs)
  find-map test f [] same = refl
  find-map test f (x ∷ xs) same = rw (same x) (by (test x) (find-map test f xs same))
    where
      by : (t : Bool) → find test (map f xs) ≡ option_map f (find test xs) → cond t (Some (f x)) (find test (map f xs)) ≡ option_map f (cond t (Some x) (find test xs))
      by true again = refl
      by false again = again

  pub find-push_none : (test : X → Bool) (xs : List X) (y : X) → find test xs ≡ None → find test (xs ++ y ∷ []) ≡ cond (test y) (Some y) None
  find-push_none test [] y none = refl
  find-push_none test (x ∷ xs) y none = by (find-push_none test xs y) (test x) refl
    where
      by : (find test xs ≡ None → find test (xs ++ y ∷ []) ≡ cond (test y) (Some y) None) → (t : Bool) → test x ≡ t → find test ((x ∷ xs) ++ y ∷ []) ≡ cond (test y) (Some y) None
      by again true t = let h : Some x ≡ None = rw t at none in absurd cc
      by again false t = rw t (again (rw t at none))

  pub find-push_some : (test : X → Bool) (xs : List X) (y x : X) → find test xs ≡ Some x → find test (xs ++ y ∷ []) ≡ Some x
  find-push_some test [] y x some = absurd cc
  find-push_some test (z ∷ zs) y x some = by (find-push_some test zs y x) (test z) refl
    where
      by : (find test zs ≡ Some x → find test (zs ++ y ∷ []) ≡ Some x) → (t : Bool) → test z ≡ t → find test ((z ∷ zs) ++ y ∷ []) ≡ Some x
      by again true t = rw t (rw t at some)
      by again false t = rw t (again (rw t at some))

  pub find-push_other : (test : X → Bool) (xs : List X) (y : X) → test y ≡ false → find test (xs ++ y ∷ []) ≡ find test xs
  find-push_other test [] y fails = rw fails refl
  find-push_other test (x ∷ xs) y fails = ap (cond (test x) (Some x)) (find-push_other test xs y fails)

  -- what passes the test is kept
  pub find-filter_kept : (test keep : X → Bool) (xs : List X) → ((x : X) → IsIn x xs → test x ≡ true → keep x ≡ true) → find test (filter keep xs) ≡ find test xs
  find-filter_kept test keep [] all = refl
  find-filter_kept test keep (x ∷ xs) all = by (find-filter_kept test keep xs (λ y is. all y (inr is))) (keep x) refl (test x) refl
    where
      by : find test (filter keep xs) ≡ find test xs → (k : Bool) → keep x ≡ k → (t : Bool) → test x ≡ t → find test (cond (keep x) (x ∷ filter keep xs) (filter keep xs)) ≡ cond (test x) (Some x) (find test xs)
      by again true k t e = rw k (ap (cond (test x) (Some x)) again)
      by again false k true e = absurd (true≢false (sym (all x (inl refl) e) ∙ k))
      by again false k false e = rw (k, e) again

  -- what passes the test is taken away
  pub find-filter_gone : (test keep : X → Bool) (xs : List X) → ((x : X) → IsIn x xs → test x ≡ true → keep x ≡ false) → find test (filter keep xs) ≡ None
  find-filter_gone test keep [] all = refl
  find-filter_gone test keep (x ∷ xs) all = by (find-filter_gone test keep xs (λ y is. all y (inr is))) (keep x) refl (test x) refl
    where
      by : find test (filter keep xs) ≡ None → (k : Bool) → keep x ≡ k → (t : Bool) → test x ≡ t → find test (cond (keep x) (x ∷ filter keep xs) (filter keep xs)) ≡ None
      by again true k true e = absurd (true≢false (sym k ∙ all x (inl refl) e))
      by again true k false e = rw k (rw e again)
      by again false k t e = rw k again

  pub in-map : (f : X → X) (xs : List X) (y : X) → IsIn y (map f xs) → (x : X) × IsIn x xs × (f x ≡ y)
  in-map f [] y is = absurd is
  in-map f (x ∷ xs) y (inl e) = (x, inl refl, e)
  in-map f (x ∷ xs) y (inr is) = let r = in-map f xs y is in (r.0, inr r.1, r.2)

  pub in-filter : (keep : X → Bool) (xs : List X) (x : X) → IsIn x (filter keep xs) → IsIn x xs × (keep x ≡ true)
  in-filter keep [] x is = absurd is
  in-filter keep (y ∷ ys) x is = by (in-filter keep ys x) (keep y) refl is
    where
      by : (IsIn x (filter keep ys) → IsIn x ys × (keep x ≡ true)) → (k : Bool) → keep y ≡ k → IsIn x (cond k (y ∷ filter keep ys) (filter keep ys)) → IsIn x (y ∷ ys) × (keep x ≡ true)
      by again true k (inl e) = (inl e, ap keep (sym e) ∙ k)
      by again true k (inr i) = let r = again i in (inr r.0, r.1)
      by again false k i = let r = again i in (inr r.0, r.1)

  pub in-push : (xs : List X) (y x : X) → IsIn x (xs ++ y ∷ []) → IsIn x xs ⊎ (y ≡ x)
  in-push [] y x (inl e) = inr e
  in-push [] y x (inr is) = absurd is
  in-push (z ∷ zs) y x (inl e) = inl (inl e)
  in-push (z ∷ zs) y x (inr is) = by (in-push zs y x is)
    where
      by : IsIn x zs ⊎ (y ≡ x) → IsIn x (z ∷ zs) ⊎ (y ≡ x)
      by (inl i) = inl (inr i)
      by (inr e) = inr e

  pub any-in : (test : X → Bool) (xs : List X) (x : X) → IsIn x xs → test x ≡ true → list_any test xs ≡ true
  any-in test [] x is e = absurd is
  any-in test (y ∷ ys) x (inl same) e = rw (ap test same ∙ e) refl
  any-in test (y ∷ ys) x (inr is) e = by (test y) (any-in test ys x is e)
    where
      by : (t : Bool) → list_any test ys ≡ true → (t || list_any test ys) ≡ true
      by true again = refl
      by false again = again

  pub any-nowhere : (test : X → Bool) (xs : List X) → ((x : X) → IsIn x xs → test x ≡ false) → list_any test xs ≡ false
  any-nowhere test [] each = refl
  any-nowhere test (x ∷ xs) each = rw (each x (inl refl)) (any-nowhere test xs (λ y is. each y (inr is)))

-- ---- workflows apart

pub record IsApart (v w : Live) : Type 0 where
  pub names : v.name ≢ w.name
  pub tables : (table : List ℕ) → moves v table ≡ true → moves w table ≡ true → ⊥

abbrev pub Apart : List Live → Type 0
Apart [] = ⊤
Apart (w ∷ ws) = AllByRecursion (IsApart w) ws × Apart ws

pub apart_again : (v w : Live) → IsApart v w → IsApart w v
apart_again v w apart = record { names = λ e. apart.names (sym e); tables = λ table a b. apart.tables table b a }

-- two that aren't apart are one
pub unique : (xs : List Live) (v w : Live) → Apart xs → IsIn v xs → IsIn w xs → (IsApart v w → ⊥) → v ≡ w
unique [] v w apart in_v in_w one = absurd in_v
unique (x ∷ xs) v w apart (inl e) (inl f) one = sym e ∙ f
unique (x ∷ xs) v w apart (inl e) (inr i) one = absurd (one (subst (λ y. IsApart y w) e (in_all (IsApart x) xs w apart.0 i)))
unique (x ∷ xs) v w apart (inr i) (inl f) one = absurd (one (apart_again w v (subst (λ y. IsApart y v) f (in_all (IsApart x) xs v apart.0 i))))
unique (x ∷ xs) v w apart (inr i) (inr j) one = unique xs v w apart.1 i j one

-- a test that two apart can't both pass finds the one that passes it
pub find_the_one : (test : Live → Bool) (xs : List Live) (w : Live) → Apart xs → ((v : Live) → test v ≡ true → IsApart v w → ⊥) → IsIn w xs → test w ≡ true → find test xs ≡ Some w
find_the_one test xs w apart one is e = by (find test xs) refl
  where
    by : (o : Option Live) → find test xs ≡ o → find test xs ≡ Some w
    by None none = absurd (true≢false (sym e ∙ find_none test xs none w is))
    by (Some v) some = let r = find_some test xs v some in some ∙ ap Some (unique xs v w apart r.0 is (one v r.1))

-- ---- they stay apart

pub apart_by_sides : (v w v' w' : Live) → HasSides v v' → HasSides w w' → IsApart v w → IsApart v' w'
apart_by_sides v w v' w' a b apart = record {
  names = λ e. apart.names (a.name ∙ e ∙ sym b.name);
  tables = λ table m n. apart.tables table (ap (list_any (λ t. same_text t table)) a.tables ∙ m) (ap (list_any (λ t. same_text t table)) b.tables ∙ n);
}

pub apart-map : (f : Live → Live) (xs : List Live) → ((w : Live) → HasSides w (f w)) → Apart xs → Apart (map f xs)
apart-map f [] same apart = tt
apart-map f (x ∷ xs) same apart = (
  all_from_in (IsApart (f x)) (map f xs) (λ y is. let r = in-map f xs y is in
      subst (IsApart (f x)) r.2 (apart_by_sides x r.0 (f x) (f r.0) (same x) (same r.0) (in_all (IsApart x) xs r.0 apart.0 r.1))),
  apart-map f xs same apart.1,
)

pub apart-filter : (keep : Live → Bool) (xs : List Live) → Apart xs → Apart (filter keep xs)
apart-filter keep [] apart = tt
apart-filter keep (x ∷ xs) apart = by (keep x) (apart-filter keep xs apart.1)
  where
    by : (k : Bool) → Apart (filter keep xs) → Apart (cond k (x ∷ filter keep xs) (filter keep xs))
    by true again = (all_from_in (IsApart x) (filter keep xs) (λ y is. in_all (IsApart x) xs y apart.0 (in-filter keep xs y is).0), again)
    by false again = again

pub apart-push : (xs : List Live) (w : Live) → ((v : Live) → IsIn v xs → IsApart v w) → Apart xs → Apart (xs ++ w ∷ [])
apart-push [] w new apart = (tt, tt)
apart-push (x ∷ xs) w new apart =
    (all_from_in (IsApart x) (xs ++ w ∷ []) (λ y is. by y (in-push xs w y is)), apart-push xs w (λ v is. new v (inr is)) apart.1)
  where
    by : (y : Live) → IsIn y xs ⊎ (w ≡ y) → IsApart x y
    by y (inl i) = in_all (IsApart x) xs y apart.0 i
    by y (inr e) = subst (IsApart x) e (new x (inl refl))

-- ---- the workflow of a name

-- a change of one workflow, by its name
abbrev pub changed : (Live → Live) → (name : List ℕ) → Live → Live
changed change name w = cond (same_text w.name name) (change w) w

pub sides_same : (w : Live) → HasSides w w
sides_same w = record { name = refl; source = refl; target = refl; tables = refl; cuts = refl }

pub sides_changed : (change : Live → Live) (name : List ℕ) (w : Live) → HasSides w (change w) → HasSides w (changed change name w)
sides_changed change name w same = by (same_text w.name name)
  where
    by : (t : Bool) → HasSides w (cond t (change w) w)
    by true = same
    by false = sides_same w

pub sides_joined : (u v w : Live) → HasSides u v → HasSides v w → HasSides u w
sides_joined u v w a b = record { name = a.name ∙ b.name; source = a.source ∙ b.source; target = a.target ∙ b.target; tables = a.tables ∙ b.tables; cuts = a.cuts ∙ b.cuts }

pub sides_back : (v w : Live) → HasSides v w → HasSides w v
sides_back v w a = record { name = sym a.name; source = sym a.source; target = sym a.target; tables = sym a.tables; cuts = sym a.cuts }

-- a name is told from another
pub text_apart : (a b : List ℕ) → same_text a b ≡ false → a ≢ b
text_apart = other_from same_text same_text_decides

pub text_differs : (a b : List ℕ) → a ≢ b → same_text a b ≡ false
text_differs = apart same_text same_text_decides
