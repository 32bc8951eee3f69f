-- The keyspaces that have a table, with one among them or without it.
use Rattle.std.proofs.Common.{◌≡◌, ◌≢◌, ◌||◌, ℕ, Bool, true, false, cond, if◌then◌else◌, not, List, [], ◌∷◌, ◌++◌, All, filter, Some, OnErr, OnOk, Result, Ok, Err, unwrap_or, refl, ap, sym, subst, ◌∙◌}
use Rattle.std.proofs.lemmas.List.Elements.{All-cons, All-head, All-nil, All-tail}
use Rattle.std.proofs.lemmas.List.Folds.{list_any-append}
use Rattle.std.proofs.lemmas.Map.Views.{any-filter_same}
use Rattle.std.specs.Cmp.{decided}
use Rattle.std.specs.List.{IsDistinct, list_any}
use Rattle.std.specs.Map.{lookup, values_of}
use Rattle.indexmap.specs.IndexMap.{insert_entry}
use Rattle.mt_names.specs.Names.{same_text}
use Rattle.mt_names.proofs.EntryLemmas.{apart}
use Rattle.mt_names.proofs.SameLemmas.{same_text_decides}
use Rattle.mt_routes.specs.Places.{with_holder}
use Rattle.mt_routes.proofs.MapLemmas.{distinct-filter, distinct-push}

or_false : (b : Bool) → (b || false) ≡ b
or_false true = refl
or_false false = refl

or_true : (b : Bool) → (b || true) ≡ true
or_true true = refl
or_true false = refl

-- another keyspace is there as it was
pub other-holder : (hs : List (List ℕ)) (k : List ℕ) (mark : Bool) (q : List ℕ) → k ≢ q → list_any (same_text q) (with_holder hs k mark) ≡ list_any (same_text q) hs
other-holder hs k false q other = any-filter_same (same_text q) (λ x. not (same_text k x)) true keeps hs
  where
    keeps : (x : List ℕ) → same_text q x ≡ true → not (same_text k x) ≡ true
    keeps x at =
        let x_is : q ≡ x = (same_text_decides q x).0 at in
        ap not (apart same_text same_text_decides k x (λ h. other (h ∙ sym x_is)))
other-holder hs k true q other = by (list_any (same_text k) hs) refl
  where
    by : (b : Bool) → list_any (same_text k) hs ≡ b → list_any (same_text q) (with_holder hs k true) ≡ list_any (same_text q) hs
    by true has = rw has refl
    by false has =
        let differs : same_text q k ≡ false = apart same_text same_text_decides q k (λ h. other (sym h)) in
        rw has (list_any-append (same_text q) hs (k ∷ []) ∙ rw differs (or_false (list_any (same_text q) hs)))

without-it : (hs : List (List ℕ)) (k : List ℕ) → list_any (same_text k) (with_holder hs k false) ≡ false
without-it [] k = refl
without-it (h ∷ hs) k = by (same_text k h) refl (without-it hs k)
  where
    by : (b : Bool) → same_text k h ≡ b → list_any (same_text k) (with_holder hs k false) ≡ false → list_any (same_text k) (with_holder (h ∷ hs) k false) ≡ false
    by true is again = rw is again
    by false is again = rw is (rw is again)

-- the keyspace is there as was said
pub this-holder : (hs : List (List ℕ)) (k : List ℕ) (mark : Bool) → list_any (same_text k) (with_holder hs k mark) ≡ mark
this-holder hs k false = without-it hs k
this-holder hs k true = by (list_any (same_text k) hs) refl
  where
    by : (b : Bool) → list_any (same_text k) hs ≡ b → list_any (same_text k) (with_holder hs k true) ≡ true
    by true has = rw has has
    by false has =
        let itself : same_text k k ≡ true = (same_text_decides k k).1 refl in
        rw has (list_any-append (same_text k) hs (k ∷ []) ∙ rw itself (or_true (list_any (same_text k) hs)))

-- none is there twice
pub distinct-holders : (hs : List (List ℕ)) (k : List ℕ) (mark : Bool) → IsDistinct same_text hs → IsDistinct same_text (with_holder hs k mark)
distinct-holders hs k false distinct = distinct-filter same_text (decided same_text same_text_decides) (λ x. not (same_text k x)) hs distinct
distinct-holders hs k true distinct = by (list_any (same_text k) hs) refl
  where
    by : (b : Bool) → list_any (same_text k) hs ≡ b → IsDistinct same_text (with_holder hs k true)
    by true has = rw has distinct
    by false has = rw has (distinct-push same_text (decided same_text same_text_decides) hs k has distinct)

-- ---- those of all tables

pub none-twice : (es : List (List ℕ × List (List ℕ))) → es ≡ [] → All (IsDistinct same_text) (values_of es)
none-twice es is = subst (λ l. All (IsDistinct same_text) (values_of l)) (sym is) (All-nil (IsDistinct same_text))

-- of those that are kept
pub kept-distinct : (p : List ℕ × List (List ℕ) → Bool) (es : List (List ℕ × List (List ℕ))) → All (IsDistinct same_text) (values_of es) → All (IsDistinct same_text) (values_of (filter p es))
kept-distinct p [] are = are
kept-distinct p (e ∷ es) are = by (p e) (kept-distinct p es (All-tail (IsDistinct same_text) e.1 (values_of es) are))
  where
    by : (b : Bool) → All (IsDistinct same_text) (values_of (filter p es)) → All (IsDistinct same_text) (values_of (cond b (e ∷ filter p es) (filter p es)))
    by true again = All-cons (IsDistinct same_text) e.1 (values_of (filter p es)) (All-head (IsDistinct same_text) e.1 (values_of es) are) again
    by false again = again

-- of a table that is set
pub set-distinct : (es : List (List ℕ × List (List ℕ))) (t : List ℕ) (hs : List (List ℕ)) → All (IsDistinct same_text) (values_of es) → IsDistinct same_text hs → All (IsDistinct same_text) (values_of (insert_entry same_text es t hs))
set-distinct [] t hs are distinct = All-cons (IsDistinct same_text) hs [] distinct (All-nil (IsDistinct same_text))
set-distinct (e ∷ es) t hs are distinct = by (same_text t e.0) (set-distinct es t hs (All-tail (IsDistinct same_text) e.1 (values_of es) are) distinct)
  where
    by : (b : Bool) → All (IsDistinct same_text) (values_of (insert_entry same_text es t hs)) → All (IsDistinct same_text) (values_of (if b then (e.0, hs) ∷ es else e ∷ insert_entry same_text es t hs))
    by true again = All-cons (IsDistinct same_text) hs (values_of es) distinct (All-tail (IsDistinct same_text) e.1 (values_of es) are)
    by false again = All-cons (IsDistinct same_text) e.1 (values_of (insert_entry same_text es t hs)) (All-head (IsDistinct same_text) e.1 (values_of es) are) again

-- of one of them
pub distinct-at : (es : List (List ℕ × List (List ℕ))) (t : List ℕ) → All (IsDistinct same_text) (values_of es) → IsDistinct same_text (unwrap_or (lookup (same_text t) es) [])
unfolding IsDistinct
distinct-at [] t are = tt
distinct-at (e ∷ es) t are = by (same_text t e.0) (distinct-at es t (All-tail (IsDistinct same_text) e.1 (values_of es) are))
  where
    by : (b : Bool) → IsDistinct same_text (unwrap_or (lookup (same_text t) es) []) → IsDistinct same_text (unwrap_or (cond b (Some e.1) (lookup (same_text t) es)) [])
    by true again = All-head (IsDistinct same_text) e.1 (values_of es) are
    by false again = again

-- of a table that is set as an entry says
pub entry-distinct : (es : List (List ℕ × List (List ℕ))) (k t : List ℕ) (mark : Bool) → All (IsDistinct same_text) (values_of es)
    → All (IsDistinct same_text) (values_of (insert_entry same_text es t (with_holder (unwrap_or (lookup (same_text t) es) []) k mark)))
entry-distinct es k t mark are = set-distinct es t (with_holder (unwrap_or (lookup (same_text t) es) []) k mark) are (distinct-holders (unwrap_or (lookup (same_text t) es) []) k mark (distinct-at es t are))

-- of a table that is set, or isn't
pub written-distinct : {T E : Type 0} (r : Result T E) (old new : List (List ℕ × List (List ℕ))) (k t : List ℕ) (mark : Bool) (hs : List (List ℕ)) → hs ≡ with_holder (unwrap_or (lookup (same_text t) old) []) k mark
    → OnOk r (new ≡ insert_entry same_text old t hs) → OnErr r (new ≡ old) → All (IsDistinct same_text) (values_of old) → All (IsDistinct same_text) (values_of new)
written-distinct (Ok x) old new k t mark hs is written refused are =
    subst (λ es. All (IsDistinct same_text) (values_of es)) (sym (written ∙ ap (insert_entry same_text old t) is)) (entry-distinct old k t mark are)
written-distinct (Err e) old new k t mark hs is written refused are = subst (λ es. All (IsDistinct same_text) (values_of es)) (sym refused) are
