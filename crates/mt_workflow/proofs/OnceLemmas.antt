-- Names as a set, each of them once.
use Rattle.std.proofs.Common.{◌≡◌, ℕ, suc, ◌<◌, ◌≤◌, ◌+◌, Bool, true, false, not, ◌||◌, cond, List, [], ◌∷◌, ◌++◌, filter, get_or, length, take, refl, ap, sym, arith, ◌∙◌}
use Rattle.std.specs.List.{list_any}
use Rattle.std.proofs.lemmas.List.{append-nil, take_more}
use Rattle.indexmap.specs.IndexSet.{insert_key}
use Rattle.mt_names.specs.Names.{same_text}
use Rattle.mt_names.proofs.SameLemmas.{same_text_decides}
use Rattle.mt_plain.specs.Plain.{each_once}

-- all names but one
abbrev others : List ℕ → List (List ℕ) → List (List ℕ)
others name names = filter (λ n. not (same_text n name)) names

others-push : (name : List ℕ) (names : List (List ℕ)) (one : List ℕ) → others name (names ++ one ∷ []) ≡ others name names ++ cond (same_text one name) [] (one ∷ [])
others-push name [] one = by (same_text one name)
  where
    by : (t : Bool) → cond (not t) (one ∷ []) [] ≡ cond t [] (one ∷ [])
    by true = refl
    by false = refl
others-push name (n ∷ ns) one = by (others-push name ns one) (not (same_text n name))
  where
    by : others name (ns ++ one ∷ []) ≡ others name ns ++ cond (same_text one name) [] (one ∷ []) → (t : Bool) → cond t (n ∷ others name (ns ++ one ∷ [])) (others name (ns ++ one ∷ [])) ≡ cond t (n ∷ others name ns) (others name ns) ++ cond (same_text one name) [] (one ∷ [])
    by again true = ap (λ l. n ∷ l) again
    by again false = again

-- another name is among the others just where it was among all
any-others : (name one : List ℕ) (names : List (List ℕ)) → same_text one name ≡ false → list_any (same_text one) (others name names) ≡ list_any (same_text one) names
any-others name one [] differs = refl
any-others name one (n ∷ ns) differs = by (any-others name one ns differs) (same_text n name) refl
  where
    by : list_any (same_text one) (others name ns) ≡ list_any (same_text one) ns → (t : Bool) → same_text n name ≡ t → list_any (same_text one) (cond (not t) (n ∷ others name ns) (others name ns)) ≡ (same_text one n || list_any (same_text one) ns)
    by again true t = again ∙ sym (ap (λ b. b || list_any (same_text one) ns) (ap (same_text one) ((same_text_decides n name).0 t) ∙ differs))
    by again false t = ap (λ b. same_text one n || b) again

-- one name more
pub once-push : (names : List (List ℕ)) (one : List ℕ) → each_once (names ++ one ∷ []) ≡ insert_key same_text (each_once names) one
once-push [] one = refl
once-push (n ∷ ns) one = ap (λ l. n ∷ others n l) (once-push ns one) ∙ by (same_text one n) refl (list_any (same_text one) (each_once ns)) refl
  where
    all : List (List ℕ)
    all = each_once ns

    by : (t : Bool) → same_text one n ≡ t → (b : Bool) → list_any (same_text one) all ≡ b
        → n ∷ others n (cond b all (all ++ one ∷ [])) ≡ cond (t || list_any (same_text one) (others n all)) (n ∷ others n all) (n ∷ others n all ++ one ∷ [])
    by true t true b = refl
    by true t false b = ap (λ l. n ∷ l) (others-push n all one ∙ ap (λ d. others n all ++ cond d [] (one ∷ [])) t ∙ append-nil (others n all))
    by false t true b = rw (any-others n one all t ∙ b) refl
    by false t false b = rw (any-others n one all t ∙ b) (ap (λ l. n ∷ l) (others-push n all one ∙ ap (λ d. others n all ++ cond d [] (one ∷ [])) t))

length-others : (name : List ℕ) (names : List (List ℕ)) → length (others name names) ≤ length names
length-others name [] = omega arith
length-others name (n ∷ ns) = by (length-others name ns) (not (same_text n name))
  where
    by : length (others name ns) ≤ length ns → (t : Bool) → length (cond t (n ∷ others name ns) (others name ns)) ≤ suc (length ns)
    by again true = omega (arith, again)
    by again false = omega (arith, again)

-- there are no more of them
pub length-once : (names : List (List ℕ)) → length (each_once names) ≤ length names
length-once [] = omega arith
length-once (n ∷ ns) = omega (arith, length-others n (each_once ns), length-once ns)

-- one more of a list's names
pub once-more : (names : List (List ℕ)) (i : ℕ) (one : List ℕ) → i < length names → one ≡ get_or names i one → insert_key same_text (each_once (take i names)) one ≡ each_once (take (i + 1) names)
once-more names i one inside is = sym (ap each_once (take_more names i one inside ∙ ap (λ n. take i names ++ n ∷ []) (sym is)) ∙ once-push (take i names) one)
