-- A place more, at a name that has none; the members, and their order.
use Rattle.std.proofs.Common.{◌≡◌, ℕ, ◌+◌, ◌-◌, ◌≤◌, ◌<◌, Bool, true, false, cond, List, [], ◌∷◌, ◌++◌, length, slice_get, slice_index_or, take, Option, None, Some, is_some, refl, sym, ap, subst, ◌∙◌, zero, suc, arith}
use Rattle.std.proofs.lemmas.Bool.{true≢false}
use Rattle.std.proofs.lemmas.List.Elements.{recursion_from_All}
use Rattle.std.proofs.lemmas.List.Sorted.{sorted_far, ranks_by, list_any-IsPermutation}
use Rattle.std.proofs.lemmas.Map.Keys.{IsDistinct-IsPermutation}
use Rattle.std.proofs.lemmas.Map.Steps.{set_value_same}
use Rattle.std.proofs.lemmas.Map.Made.{IsDistinct-keys_filter}
use Rattle.std.proofs.lemmas.Cmp.{nat_list_cmp_total, nat_list_eq_equiv}
use Rattle.std.specs.Cmp.{IsTotalOrder}
use Rattle.std.specs.Cmp.Lexicographic.{slice_cmp, texts_ties}
use Rattle.std.specs.List.{AllByRecursion, IsDistinct, filter, list_any}
use Rattle.std.specs.List.Sorted.{IsPermutation, IsSorted, IsStrictlySortedBy}
use Rattle.std.specs.Map.{keys_of, lookup, remove_entry, set_value}
use Rattle.std.specs.Option.{option_map_or}
use Rattle.std.specs.Ordering.{eq_by_cmp, is_eq, is_lt, nat_cmp, ordering_reverse}
use Rattle.std.specs.declared.cmp.Ordering.{Ordering}
use Rattle.std.specs.declared.cmp.Ordering.TheVariants.{Less, Equal, Greater}
use Rattle.std.proofs.lemmas.List.{take_all, take_more}
use Rattle.std.proofs.lemmas.Option.{get_or_from_slice_get, slice_get_within}
use Rattle.indexmap.proofs.CallerLemmas.{insert_entry-new}
use Rattle.indexmap.specs.IndexMap.{IndexMap, insert_entry}
use Rattle.mt_names.specs.Names.{same_text}
use Rattle.mt_names.proofs.EntryLemmas.{none_from, remove_entry-push, set_value-twice}
use Rattle.mt_names.proofs.SameLemmas.{same_text_decides}
use Rattle.mt_model.specs.Topology.{Marks, is_marked, with_mark_place}
use Rattle.mt_denied.specs.Denied.{AreMembersInOrder, has_mark_place, is_last}

with_mark_place-new : (marks : Marks) (name : List ℕ) → has_mark_place marks name ≡ false → with_mark_place marks name ≡ marks ++ (name, false) ∷ []
with_mark_place-new marks name lacks = rw (none_from (lookup (same_text name) marks) lacks) refl

-- what `insert` makes of the map
pub insert_entry-place : {S : Type 0} (m : IndexMap (List ℕ) Bool S) (marks : Marks) (name copy : List ℕ) → m.entries ≡ marks → copy ≡ name → has_mark_place marks name ≡ false → insert_entry same_text m.entries copy false ≡ with_mark_place marks name
insert_entry-place m marks name copy is copied lacks =
    ap (λ n. insert_entry same_text m.entries n false) copied
    ∙ insert_entry-new same_text m name false (ap (lookup (same_text name)) is ∙ none_from (lookup (same_text name) marks) lacks)
    ∙ ap (λ es. es ++ (name, false) ∷ []) is ∙ sym (with_mark_place-new marks name lacks)

insert_entry-there : (es : Marks) (name : List ℕ) (v : Bool) → has_mark_place es name ≡ true → insert_entry same_text es name v ≡ set_value (same_text name) es v
insert_entry-there [] name v there = absurd (true≢false (sym there))
insert_entry-there (e ∷ es) name v there = by (insert_entry-there es name v) (same_text name e.0) refl there
  where
    by : (has_mark_place es name ≡ true → insert_entry same_text es name v ≡ set_value (same_text name) es v) → (t : Bool) → same_text name e.0 ≡ t → has_mark_place (e ∷ es) name ≡ true → insert_entry same_text (e ∷ es) name v ≡ set_value (same_text name) (e ∷ es) v
    by again true t at = rw t refl
    by again false t at = rw t (ap (λ l. e ∷ l) (again (rw t at at)))

-- a mark that `insert` overwrote, set again
pub mark_kept : (es marks : Marks) (name copy : List ℕ) (mark : Bool) → es ≡ marks → copy ≡ name → lookup (same_text copy) es ≡ Some mark → set_value (same_text name) (insert_entry same_text es copy false) mark ≡ with_mark_place marks name
mark_kept es marks name copy mark is copied there =
    let found : lookup (same_text name) marks ≡ Some mark = ap (λ l. lookup (same_text name) l) (sym is) ∙ ap (λ n. lookup (same_text n) es) (sym copied) ∙ there in
    let stays : with_mark_place marks name ≡ marks = rw found refl in
    ap (λ n. set_value (same_text name) (insert_entry same_text es n false) mark) copied
    ∙ ap (λ l. set_value (same_text name) (insert_entry same_text l name false) mark) is
    ∙ ap (λ l. set_value (same_text name) l mark) (insert_entry-there marks name false (ap is_some found))
    ∙ set_value-twice (same_text name) marks false mark ∙ set_value_same (same_text name) marks mark found ∙ sym stays

-- ---- the last place

at_last : (P : List ℕ → Type 0) (es : Marks) (k : List ℕ) (v : Bool) → AllByRecursion P (keys_of (es ++ (k, v) ∷ [])) → P k
at_last P [] k v all = all.0
at_last P (e ∷ es) k v all = at_last P es k v all.1

-- no place before it is of its name
absent_before : (es : Marks) (k : List ℕ) (v : Bool) → IsDistinct same_text (keys_of (es ++ (k, v) ∷ [])) → lookup (same_text k) es ≡ None
unfolding IsDistinct
absent_before [] k v distinct = refl
absent_before (e ∷ es) k v distinct =
    let other : same_text k e.0 ≡ false = nat_list_eq_equiv.symm k e.0 ∙ at_last (λ n. same_text e.0 n ≡ false) es k v distinct.0 in rw other (absent_before es k v distinct.1)

-- where a table has the last place, to keep the others is to drop the table's
pub last_cut : (marks : Marks) (name : List ℕ) → IsDistinct same_text (keys_of marks) → is_last marks name ≡ true → take (length marks - 1) marks ≡ remove_entry (same_text name) marks
last_cut marks name distinct last = by (slice_get marks (length marks - 1)) refl last
  where
    by : (o : Option (List ℕ × Bool)) → slice_get marks (length marks - 1) ≡ o → option_map_or (λ m. same_text m.0 name) o false ≡ true → take (length marks - 1) marks ≡ remove_entry (same_text name) marks
    by None o e = absurd (true≢false (sym e))
    by (Some x) o e =
        let n = length marks - 1 in
        let within = slice_get_within marks n x o in
        let front = take n marks in
        let split : marks ≡ front ++ x ∷ [] = sym (take_all (n + 1) marks (omega (arith, within))) ∙ take_more marks n x within ∙ ap (λ y. front ++ y ∷ []) (get_or_from_slice_get marks n x x o) in
        let named : x.0 ≡ name = (same_text_decides x.0 name).0 e in
        let removed : remove_entry (same_text x.0) (front ++ x ∷ []) ≡ front =
        remove_entry-push same_text same_text_decides front x.0 x.1 (absent_before front x.0 x.1 (subst (λ l. IsDistinct same_text (keys_of l)) split distinct)) in
        sym removed ∙ ap (λ n. remove_entry (same_text n) (front ++ x ∷ [])) named ∙ ap (remove_entry (same_text name)) (sym split)

-- ---- the members

abbrev pub members : Marks → List (List ℕ)
members marks = keys_of (filter (λ m. m.1) marks)

-- a name that is no key is no member
absent : (marks : Marks) (name : List ℕ) → AllByRecursion (λ k. same_text name k ≡ false) (keys_of marks) → list_any (same_text name) (members marks) ≡ false
absent [] name none = refl
absent (m ∷ ms) name none = by (absent ms name none.1) m.1
  where
    by : list_any (same_text name) (members ms) ≡ false → (t : Bool) → list_any (same_text name) (keys_of (cond t (m ∷ filter (λ k. k.1) ms) (filter (λ k. k.1) ms))) ≡ false
    by again true = rw none.0 again
    by again false = again

-- the members are the names that are marked
pub members-found : (marks : Marks) (name : List ℕ) → IsDistinct same_text (keys_of marks) → list_any (same_text name) (members marks) ≡ is_marked marks name
unfolding IsDistinct
members-found [] name distinct = refl
members-found (m ∷ ms) name distinct = by (members-found ms name distinct.1) (same_text name m.0) refl m.1 refl
  where
    by : list_any (same_text name) (members ms) ≡ is_marked ms name → (t : Bool) → same_text name m.0 ≡ t → (b : Bool) → m.1 ≡ b → list_any (same_text name) (members (m ∷ ms)) ≡ is_marked (m ∷ ms) name
    by again true t true b = rw (b, t) refl
    by again true t false b = rw (b, t) (ap (λ n. list_any (same_text n) (members ms)) ((same_text_decides name m.0).0 t) ∙ absent ms m.0 distinct.0)
    by again false t true b = rw (b, t) again
    by again false t false b = rw (b, t) again

-- ---- their order

less_between : (a b : Ordering) → b ≡ ordering_reverse a → is_lt b ≡ false → is_eq a ≡ false → a ≡ Less
less_between Less b turned not_below differ = refl
less_between Equal b turned not_below differ = absurd (true≢false differ)
less_between Greater b turned not_below differ = absurd (true≢false (sym (ap is_lt turned) ∙ not_below))

module _ {X : Type 0} {R : X → X → Ordering} (o : IsTotalOrder R) {E : X → X → Bool} (ties : (x y : X) → E x y ≡ eq_by_cmp R x y) where
  first_below : (x : X) (ys : List X) → AllByRecursion (λ y. is_lt (R y x) ≡ false) ys → AllByRecursion (λ y. E x y ≡ false) ys → AllByRecursion (λ y. R x y ≡ Less) ys
  first_below x [] up differ = tt
  first_below x (y ∷ ys) up differ = (less_between (R x y) (R y x) (o.antisymm y x) up.0 (sym (ties x y) ∙ differ.0), first_below x ys up.1 differ.1)

  strictly_from : (xs : List X) → ((i j : ℕ) (d : X) → i ≤ j → j < length xs → is_lt (R (slice_index_or xs j d) (slice_index_or xs i d)) ≡ false) → IsDistinct E xs → IsStrictlySortedBy R xs
  unfolding IsDistinct IsStrictlySortedBy
  strictly_from [] up distinct = tt
  strictly_from (x ∷ xs) up distinct = (
    first_below x xs (recursion_from_All (λ y. is_lt (R y x) ≡ false) xs (λ j d inside. up zero (suc j) d (omega arith) (omega arith))) distinct.0,
    strictly_from xs (λ i j d below inside. up (suc i) (suc j) d (omega arith) (omega arith)) distinct.1,
  )

  strictly : (xs : List X) → IsSorted R xs → IsDistinct E xs → IsStrictlySortedBy R xs
  strictly xs sorted = strictly_from xs (λ i j d below inside. sorted_far _ (ranks_by o (λ a. a)) xs sorted i j d below inside)

-- a list that a sort makes of the members
pub sorted_members : (marks : Marks) (found names : List (List ℕ)) → IsDistinct same_text (keys_of marks) → found ≡ members marks → IsPermutation found names → IsSorted (slice_cmp nat_cmp) names → AreMembersInOrder marks names
sorted_members marks found names distinct all permutation sorted =
    let moved = subst (λ l. IsPermutation l names) all permutation in record {
      members = λ name. sym (list_any-IsPermutation (same_text name) (members marks) names moved) ∙ members-found marks name distinct;
      ascending = strictly nat_list_cmp_total texts_ties names sorted
          (IsDistinct-IsPermutation same_text nat_list_eq_equiv.symm (members marks) names moved (IsDistinct-keys_filter same_text (λ m. m.1) marks distinct));
    }
