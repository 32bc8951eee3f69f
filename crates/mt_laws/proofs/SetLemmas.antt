-- Names as a set, each of them once.
use Rattle.std.proofs.Common.{◌≡◌, ℕ, Bool, true, false, not, cond, List, [], ◌∷◌, filter, refl, sym, ap, ◌∙◌}
use Rattle.std.proofs.lemmas.Map.Keys.{IsDistinct-cons, IsDistinct-head, IsDistinct-tail}
use Rattle.std.specs.List.{AllByRecursion, IsDistinct}
use Rattle.std.specs.Prelude.{◌||◌}
use Rattle.mt_names.specs.Names.{same_text}
use Rattle.mt_names.proofs.EntryLemmas.{same_turned}
use Rattle.mt_names.proofs.SameLemmas.{same_text_decides}
use Rattle.mt_plain.specs.Plain.{among, each_once}
use Rattle.mt_laws.proofs.ListLemmas.{filter-all}

-- all names but one
abbrev others : List ℕ → List (List ℕ) → List (List ℕ)
others name names = filter (λ n. not (same_text n name)) names

none_distinct : IsDistinct same_text []
unfolding IsDistinct
none_distinct = tt

-- names that are kept stay distinct
distinct-filter : (keep : List ℕ → Bool) (names : List (List ℕ)) → IsDistinct same_text names → IsDistinct same_text (filter keep names)
distinct-filter keep [] distinct = distinct
distinct-filter keep (n ∷ ns) distinct = by (distinct-filter keep ns (IsDistinct-tail same_text n ns distinct)) (keep n)
  where
    by : IsDistinct same_text (filter keep ns) → (t : Bool) → IsDistinct same_text (cond t (n ∷ filter keep ns) (filter keep ns))
    by again true = IsDistinct-cons same_text n (filter keep ns) (filter-all (λ m. same_text n m ≡ false) keep ns (IsDistinct-head same_text n ns distinct)) again
    by again false = again

-- the others differ from the one
others-differ : (name : List ℕ) (names : List (List ℕ)) → AllByRecursion (λ n. same_text name n ≡ false) (others name names)
others-differ name [] = tt
others-differ name (n ∷ ns) = by (others-differ name ns) (same_text n name) refl
  where
    by : AllByRecursion (λ m. same_text name m ≡ false) (others name ns) → (t : Bool) → same_text n name ≡ t → AllByRecursion (λ m. same_text name m ≡ false) (cond (not t) (n ∷ others name ns) (others name ns))
    by again true t = again
    by again false t = (same_turned same_text same_text_decides name n ∙ t, again)

pub once-distinct : (names : List (List ℕ)) → IsDistinct same_text (each_once names)
once-distinct [] = none_distinct
once-distinct (n ∷ ns) =
    IsDistinct-cons same_text n (others n (each_once ns)) (others-differ n (each_once ns)) (distinct-filter (λ m. not (same_text m n)) (each_once ns) (once-distinct ns))

-- another name is among the others just where it was among all
among-others : (name other : List ℕ) (names : List (List ℕ)) → same_text name other ≡ false → among (others name names) other ≡ among names other
among-others name other [] differs = refl
among-others name other (n ∷ ns) differs = by (among-others name other ns differs) (same_text n name) refl
  where
    by : among (others name ns) other ≡ among ns other → (t : Bool) → same_text n name ≡ t → among (cond (not t) (n ∷ others name ns) (others name ns)) other ≡ (same_text n other || among ns other)
    by again true t = again ∙ sym (ap (λ b. b || among ns other) (ap (λ m. same_text m other) ((same_text_decides n name).0 t) ∙ differs))
    by again false t = ap (λ b. same_text n other || b) again

pub among-once : (names : List (List ℕ)) (name : List ℕ) → among (each_once names) name ≡ among names name
among-once [] name = refl
among-once (n ∷ ns) name = by (among-once ns name) (same_text n name) refl
  where
    by : among (each_once ns) name ≡ among ns name → (t : Bool) → same_text n name ≡ t → (t || among (others n (each_once ns)) name) ≡ (t || among ns name)
    by again true t = refl
    by again false t = among-others n name (each_once ns) t ∙ again

-- where all differ from the one, the others are all
others-all : (name : List ℕ) (names : List (List ℕ)) → AllByRecursion (λ n. same_text name n ≡ false) names → others name names ≡ names
others-all name [] all = refl
others-all name (n ∷ ns) all = rw (same_turned same_text same_text_decides n name ∙ all.0) (ap (λ l. n ∷ l) (others-all name ns all.1))

pub once-stays : (names : List (List ℕ)) → IsDistinct same_text names → each_once names ≡ names
once-stays [] distinct = refl
once-stays (n ∷ ns) distinct =
    ap (λ l. n ∷ others n l) (once-stays ns (IsDistinct-tail same_text n ns distinct)) ∙ ap (λ l. n ∷ l) (others-all n ns (IsDistinct-head same_text n ns distinct))
