-- Reading a dump: one step more, and what a step answers.
use Rattle.std.proofs.Common.{◌≡◌, inl, inr, ℕ, ◌≤◌, ◌||◌, Bool, true, false, List, [], ◌∷◌, ◌++◌, length, Option, None, Some, is_some, option_map, option_and_then, Result, Ok, Err, append_assoc, refl, sym, ap, subst, ◌∙◌}
use Rattle.std.proofs.lemmas.Bool.{true≢false, ltb-false}
use Rattle.std.proofs.lemmas.Cmp.{nat_list_eq_equiv}
use Rattle.std.proofs.lemmas.List.Elements.{All-from_recursion, All-weaker}
use Rattle.std.specs.List.{AllByRecursion, IsDistinct, list_any}
use Rattle.std.specs.Map.{keys_of, lookup, set_value}
use Rattle.indexmap.proofs.CallerLemmas.{insert_entry-new}
use Rattle.indexmap.specs.IndexMap.{IndexMap, insert_entry}
use Rattle.serde_json.specs.Data.{Data, Items, item}
use Rattle.mt_names.specs.Names.{same_text}
use Rattle.mt_names.specs.Shards.{KeyRange}
use Rattle.mt_names.proofs.EntryLemmas.{none_from, same_itself}
use Rattle.mt_names.proofs.SameLemmas.{same_text_decides}
use Rattle.mt_model.specs.declared.faults.TopologyFault.{TopologyFault}
use Rattle.mt_model.specs.declared.faults.TopologyFault.TheVariants.{Memory, BadDump}
use Rattle.mt_model.specs.Limits.{most_tables_in_keyspace}
use Rattle.mt_model.specs.Topology.{HasDistinctPlaces, KeyspaceState, Keyspaces, Marks, is_marked, keyspace_at, with_mark_place}
use Rattle.mt_keyspace.specs.declared.load.DumpVersion.{DumpVersion}
use Rattle.mt_keyspace.specs.Load.{IsUnlessMemory, answer_with, denials_of, has_too_many_tables, keyspaces_of, or_bad_dump, ranges_read, with_denial_of, with_keyspace_of, with_new_denial, with_new_keyspace, with_new_mark, with_range_of}

-- ---- one more, where there was none

pub with_new_mark-new : {S : Type 0} (m : IndexMap (List ℕ) Bool S) (name : List ℕ) (new : Marks) → is_some (lookup (same_text name) m.entries) ≡ false → new ≡ insert_entry same_text m.entries name true
    → Ok new ≡ or_bad_dump (with_new_mark m.entries name)
with_new_mark-new m name new lacks is = rw lacks (ap Ok (is ∙ insert_entry-new same_text m name true (none_from (lookup (same_text name) m.entries) lacks)))

pub with_new_keyspace-new : {S : Type 0} (m : IndexMap (List ℕ) KeyspaceState S) (name : List ℕ) (state : KeyspaceState) (new : Keyspaces) → is_some (keyspace_at m.entries name) ≡ false
    → new ≡ insert_entry same_text m.entries name state → Ok new ≡ or_bad_dump (with_new_keyspace m.entries name state)
with_new_keyspace-new m name state new lacks is = rw lacks (ap Ok (is ∙ insert_entry-new same_text m name state (none_from (keyspace_at m.entries name) lacks)))

-- ---- what a step answers of a part, it answers of the whole

carried-fault : {A B : Type 0} (f : A → B) (fault : TopologyFault) (o : Option A) → Err fault ≡ or_bad_dump o → Err fault ≡ or_bad_dump (option_map f o)
carried-fault f fault None e = let same : fault ≡ BadDump = cc in ap Err same
carried-fault f fault (Some x) e = absurd cc

carried-value : {A B : Type 0} (f : A → B) (v : A) (o : Option A) → Ok v ≡ or_bad_dump o → Ok (f v) ≡ or_bad_dump (option_map f o)
carried-value f v None e = absurd cc
carried-value f v (Some x) e = let same : v ≡ x = cc in ap (λ y. Ok (f y)) same

pub carried : {A B : Type 0} (f : A → B) (v : A) (r : Result Unit TopologyFault) (o : Option A) → IsUnlessMemory (answer_with v r) (or_bad_dump o) → IsUnlessMemory (answer_with (f v) r) (or_bad_dump (option_map f o))
carried f v (Ok done) o (inl e) = absurd cc
carried f v (Ok done) o (inr e) = inr (carried-value f v o e)
carried f v (Err fault) o (inl e) = let same : fault ≡ Memory = cc in inl (ap Err same)
carried f v (Err fault) o (inr e) = inr (carried-fault f fault o e)

-- a denial more in a keyspace
pub denied_more : (state : KeyspaceState) (table : List ℕ) (marks : Marks) (r : Result Unit TopologyFault) → is_marked state.tables table ≡ true
    → IsUnlessMemory (answer_with marks r) (or_bad_dump (with_new_mark state.denied table))
    → IsUnlessMemory (answer_with (record state { denied = marks }) r) (or_bad_dump (with_new_denial table state))
denied_more state table marks r there is = rw there (carried (λ denied. record state { denied = denied }) marks r (with_new_mark state.denied table) is)

-- ---- steps through a list

pub denials_of-taken : (ks new : Keyspaces) (d : Data) (ds : Items) → IsUnlessMemory (answer_with new (Ok tt)) (or_bad_dump (with_denial_of ks d)) → denials_of ks (item d ds) ≡ denials_of new ds
denials_of-taken ks new d ds is = by (with_denial_of ks d) is
  where
    by : (o : Option Keyspaces) → IsUnlessMemory (Ok new) (or_bad_dump o) → option_and_then (λ more. denials_of more ds) o ≡ denials_of new ds
    by o (inl e) = absurd cc
    by None (inr e) = absurd cc
    by (Some more) (inr e) = let same : new ≡ more = cc in ap (λ k. denials_of k ds) (sym same)

pub denials_of-refused : (ks new : Keyspaces) (d : Data) (ds : Items) (fault : TopologyFault) → IsUnlessMemory (answer_with new (Err fault)) (or_bad_dump (with_denial_of ks d))
    → IsUnlessMemory (Err fault) (or_bad_dump (denials_of ks (item d ds)))
denials_of-refused ks new d ds fault is = by (with_denial_of ks d) is
  where
    by : (o : Option Keyspaces) → IsUnlessMemory (Err fault) (or_bad_dump o) → IsUnlessMemory (Err fault) (or_bad_dump (option_and_then (λ more. denials_of more ds) o))
    by o (inl e) = inl (let same : fault ≡ Memory = cc in ap Err same)
    by None (inr e) = inr (let same : fault ≡ BadDump = cc in ap Err same)
    by (Some more) (inr e) = absurd cc

pub keyspaces_of-refused : (version : DumpVersion) (ks new : Keyspaces) (d : Data) (ds : Items) (fault : TopologyFault) → IsUnlessMemory (answer_with new (Err fault)) (or_bad_dump (with_keyspace_of version ks d))
    → IsUnlessMemory (Err fault) (or_bad_dump (keyspaces_of version ks (item d ds)))
keyspaces_of-refused version ks new d ds fault is = by (with_keyspace_of version ks d) is
  where
    by : (o : Option Keyspaces) → IsUnlessMemory (Err fault) (or_bad_dump o) → IsUnlessMemory (Err fault) (or_bad_dump (option_and_then (λ more. keyspaces_of version more ds) o))
    by o (inl e) = inl (let same : fault ≡ Memory = cc in ap Err same)
    by None (inr e) = inr (let same : fault ≡ BadDump = cc in ap Err same)
    by (Some more) (inr e) = absurd cc

pub ranges_read-taken : (old new : List KeyRange) (d : Data) (ds : Items) → Ok new ≡ or_bad_dump (with_range_of old d) → ranges_read old (item d ds) ≡ ranges_read new ds
ranges_read-taken old new d ds is = by (with_range_of old d) is
  where
    by : (o : Option (List KeyRange)) → Ok new ≡ or_bad_dump o → option_and_then (λ more. ranges_read more ds) o ≡ ranges_read new ds
    by None e = absurd cc
    by (Some more) e = let same : new ≡ more = cc in ap (λ ranges. ranges_read ranges ds) (sym same)

pub ranges_read-refused : (old : List KeyRange) (d : Data) (ds : Items) (fault : TopologyFault) → Err fault ≡ or_bad_dump (with_range_of old d) → Err fault ≡ or_bad_dump (ranges_read old (item d ds))
ranges_read-refused old d ds fault is = by (with_range_of old d) is
  where
    by : (o : Option (List KeyRange)) → Err fault ≡ or_bad_dump o → Err fault ≡ or_bad_dump (option_and_then (λ more. ranges_read more ds) o)
    by None e = let same : fault ≡ BadDump = cc in ap Err same
    by (Some more) e = absurd cc

-- ---- places that are moved

-- of entries with different keys, one in the middle is none of those before it
pub fresh : {K V : Type 0} (same : K → K → Bool) (xs ys : List (K × V)) (k : K) (v : V) → ((a b : K) → same a b ≡ same b a) → IsDistinct same (keys_of (xs ++ (k, v) ∷ ys)) → lookup (same k) xs ≡ None
unfolding IsDistinct
fresh same [] ys k v turned distinct = refl
fresh {K} {V} same (x ∷ xs) ys k v turned distinct = rw (turned k x.0 ∙ among xs distinct.0) (fresh same xs ys k v turned distinct.1)
  where
    among : (zs : List (K × V)) → AllByRecursion (λ j. same x.0 j ≡ false) (keys_of (zs ++ (k, v) ∷ ys)) → same x.0 k ≡ false
    among [] apart = apart.0
    among (z ∷ zs) apart = among zs apart.1

set_value-last : (marks : Marks) (name : List ℕ) (mark : Bool) → lookup (same_text name) marks ≡ None → set_value (same_text name) (marks ++ (name, false) ∷ []) mark ≡ marks ++ (name, mark) ∷ []
set_value-last [] name mark none = rw (same_itself same_text same_text_decides name) refl
set_value-last (m ∷ ms) name mark none = by (set_value-last ms name mark) (same_text name m.0) refl
  where
    by : (lookup (same_text name) ms ≡ None → set_value (same_text name) (ms ++ (name, false) ∷ []) mark ≡ ms ++ (name, mark) ∷ []) → (t : Bool) → same_text name m.0 ≡ t
        → set_value (same_text name) ((m ∷ ms) ++ (name, false) ∷ []) mark ≡ (m ∷ ms) ++ (name, mark) ∷ []
    by again true t = absurd (let h = rw t at none in cc)
    by again false t = rw t (ap (λ l. m ∷ l) (again (rw t at none)))

pub denial_moved : (all marks left new : Marks) (name : List ℕ) (mark : Bool) → IsDistinct same_text (keys_of all) → all ≡ marks ++ (name, mark) ∷ left
    → new ≡ set_value (same_text name) (with_mark_place marks name) mark → all ≡ new ++ left
denial_moved all marks left new name mark distinct whole is =
    let none : lookup (same_text name) marks ≡ None = fresh same_text marks left name mark nat_list_eq_equiv.symm (subst (λ es. IsDistinct same_text (keys_of es)) whole distinct) in
    let last : new ≡ marks ++ (name, mark) ∷ [] = is ∙ rw none (set_value-last marks name mark none) in
    whole ∙ sym (append_assoc marks ((name, mark) ∷ []) left) ∙ ap (λ l. l ++ left) (sym last)

-- ---- keyspaces that are settled

abbrev pub HasDistinctMarks : List ℕ × KeyspaceState → Type 0
HasDistinctMarks k = IsDistinct same_text (keys_of k.1.tables) × IsDistinct same_text (keys_of k.1.denied)

pub few_tables : (done left : Keyspaces) (k : List ℕ × KeyspaceState) → list_any has_too_many_tables (done ++ k ∷ left) ≡ false → length k.1.tables ≤ most_tables_in_keyspace
few_tables [] left k few = ltb-false most_tables_in_keyspace (length k.1.tables) (by (has_too_many_tables k) few)
  where
    by : (t : Bool) → (t || list_any has_too_many_tables left) ≡ false → t ≡ false
    by true e = absurd (true≢false e)
    by false e = refl
few_tables (x ∷ done) left k few = few_tables done left k (by (has_too_many_tables x) few)
  where
    by : (t : Bool) → (t || list_any has_too_many_tables (done ++ k ∷ left)) ≡ false → list_any has_too_many_tables (done ++ k ∷ left) ≡ false
    by true e = absurd (true≢false e)
    by false e = e

pub all-append : {A : Type 0} (P : A → Type 0) (xs ys : List A) → AllByRecursion P xs → AllByRecursion P ys → AllByRecursion P (xs ++ ys)
all-append P [] ys one two = two
all-append P (x ∷ xs) ys one two = (one.0, all-append P xs ys one.1 two)

pub keyspace_settled : {S : Type 0} (all left : Keyspaces) (m : IndexMap (List ℕ) KeyspaceState S) (new : Keyspaces) (name : List ℕ) (draft state : KeyspaceState)
    → IsDistinct same_text (keys_of all) → all ≡ m.entries ++ (name, draft) ∷ left → state ≡ draft → HasDistinctMarks (name, draft) → AllByRecursion HasDistinctMarks m.entries
    → new ≡ insert_entry same_text m.entries name state → (all ≡ new ++ left) × AllByRecursion HasDistinctMarks new
keyspace_settled all left m new name draft state distinct whole same marks before is =
    let none : lookup (same_text name) m.entries ≡ None = fresh same_text m.entries left name draft nat_list_eq_equiv.symm (subst (λ es. IsDistinct same_text (keys_of es)) whole distinct) in
    let last : new ≡ m.entries ++ (name, draft) ∷ [] = is ∙ insert_entry-new same_text m name state none ∙ ap (λ s. m.entries ++ (name, s) ∷ []) same in (
      whole ∙ sym (append_assoc m.entries ((name, draft) ∷ []) left) ∙ ap (λ l. l ++ left) (sym last),
      subst (AllByRecursion HasDistinctMarks) (sym last) (all-append HasDistinctMarks m.entries ((name, draft) ∷ []) before (marks, tt)),
    )

pub all_settled : (keyspaces : Keyspaces) → IsDistinct same_text (keys_of keyspaces) → AllByRecursion HasDistinctMarks keyspaces → HasDistinctPlaces (record { rules = []; keyspaces = keyspaces })
unfolding IsDistinct
all_settled keyspaces distinct all = record {
  rules = tt;
  keyspaces = distinct;
  tables = All-weaker HasDistinctMarks (λ k. IsDistinct same_text (keys_of k.1.tables)) (λ k marks. marks.0) keyspaces (All-from_recursion HasDistinctMarks keyspaces all);
  denied = All-weaker HasDistinctMarks (λ k. IsDistinct same_text (keys_of k.1.denied)) (λ k marks. marks.1) keyspaces (All-from_recursion HasDistinctMarks keyspaces all);
}
