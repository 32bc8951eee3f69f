-- The texts of denied tables differ where no keyspace and no table has two places.
use Rattle.std.proofs.Common.{◌≡◌, ℕ, true, false, List, [], ◌∷◌, ◌++◌, map, flat_map, refl, sym, ap, subst, ◌∙◌}
use Rattle.std.proofs.lemmas.List.{append_cancel_left}
use Rattle.std.proofs.lemmas.Map.Made.{IsDistinct-keys_filter}
use Rattle.std.specs.List.{AllByRecursion, IsDistinct}
use Rattle.std.specs.Map.{keys_of}
use Rattle.mt_names.specs.declared.text.Alphabet.TheVariants.{Plain}
use Rattle.mt_names.specs.Keys.{before, dot}
use Rattle.mt_names.specs.Names.{IsKeyspaceName, same_text}
use Rattle.mt_names.proofs.CutLemmas.{before-append}
use Rattle.mt_names.proofs.EntryLemmas.{apart}
use Rattle.mt_names.proofs.KeyLemmas.{name_lacks}
use Rattle.mt_names.proofs.SameLemmas.{same_text_decides}
use Rattle.mt_model.specs.Documents.{denied_text, denied_texts, marked}
use Rattle.mt_model.specs.Topology.{Keyspaces, Marks}
use Rattle.mt_keyspace.proofs.LoadLemmas.{all-append}
use Rattle.mt_keyspace.proofs.SortLemmas.{marked-members}

abbrev pub Differs : List ℕ → List (List ℕ) → Type 0
Differs x ys = AllByRecursion (λ y. same_text x y ≡ false) ys

-- ---- texts of different tables differ

tail_or : List ℕ → List ℕ
tail_or [] = []
tail_or (b ∷ bs) = bs

pub of_tables : (k t u : List ℕ) → same_text t u ≡ false → same_text (denied_text k t) (denied_text k u) ≡ false
unfolding tail_or
of_tables k t u other = apart same_text same_text_decides (denied_text k t) (denied_text k u) (λ e.
    let same : t ≡ u = ap tail_or (append_cancel_left k (dot ∷ t) (dot ∷ u) e) in
    let found : true ≡ false = sym ((same_text_decides t u).1 same) ∙ other in cc)

pub of_keyspaces : (k l t u : List ℕ) → IsKeyspaceName k → IsKeyspaceName l → same_text k l ≡ false → same_text (denied_text k t) (denied_text l u) ≡ false
of_keyspaces k l t u named other_named other = apart same_text same_text_decides (denied_text k t) (denied_text l u) (λ e.
    let same : k ≡ l = sym (before-append dot k t (name_lacks Plain dot k refl named)) ∙ ap (before dot) e ∙ before-append dot l u (name_lacks Plain dot l refl other_named) in
    let found : true ≡ false = sym ((same_text_decides k l).1 same) ∙ other in cc)

tables_differ : (k : List ℕ) (ts : List (List ℕ)) → IsDistinct same_text ts → IsDistinct same_text (map (denied_text k) ts)
unfolding IsDistinct
tables_differ k [] distinct = tt
tables_differ k (t ∷ ts) distinct = (each ts distinct.0, tables_differ k ts distinct.1)
  where
    each : (us : List (List ℕ)) → Differs t us → Differs (denied_text k t) (map (denied_text k) us)
    each [] other = tt
    each (u ∷ us) other = (of_tables k t u other.0, each us other.1)

cross : (k t : List ℕ) → IsKeyspaceName k → (ks : Keyspaces) → AllByRecursion (λ j. same_text k j ≡ false) (keys_of ks) → AllByRecursion (λ l. IsKeyspaceName l.0) ks → Differs (denied_text k t) (flat_map denied_texts ks)
cross k t named [] other names = tt
cross k t named (l ∷ ls) other names = all-append (λ x. same_text (denied_text k t) x ≡ false) (denied_texts l) (flat_map denied_texts ls) (each (marked l.1.denied)) (cross k t named ls other.1 names.1)
  where
    each : (us : List (List ℕ)) → Differs (denied_text k t) (map (denied_text l.0) us)
    each [] = tt
    each (u ∷ us) = (of_keyspaces k l.0 t u named names.0 other.0, each us)

distinct-append : (xs ys : List (List ℕ)) → IsDistinct same_text xs → IsDistinct same_text ys → AllByRecursion (λ x. Differs x ys) xs → IsDistinct same_text (xs ++ ys)
unfolding IsDistinct
distinct-append [] ys one two all = two
distinct-append (x ∷ xs) ys one two all = (all-append (λ y. same_text x y ≡ false) xs ys one.0 all.0, distinct-append xs ys one.1 two all.1)

pub marked_distinct : (marks : Marks) → IsDistinct same_text (keys_of marks) → IsDistinct same_text (marked marks)
marked_distinct marks distinct = subst (IsDistinct same_text) (sym (marked-members marks)) (IsDistinct-keys_filter same_text (λ m. m.1) marks distinct)

pub texts_differ : (ks : Keyspaces) → IsDistinct same_text (keys_of ks) → AllByRecursion (λ k. IsDistinct same_text (keys_of k.1.denied)) ks → AllByRecursion (λ k. IsKeyspaceName k.0) ks
    → IsDistinct same_text (flat_map denied_texts ks)
unfolding IsDistinct
texts_differ [] distinct denied names = tt
texts_differ (k ∷ ks) distinct denied names =
    distinct-append (denied_texts k) (flat_map denied_texts ks) (tables_differ k.0 (marked k.1.denied) (marked_distinct k.1.denied denied.0)) (texts_differ ks distinct.1 denied.1 names.1) (each (marked k.1.denied))
  where
    each : (us : List (List ℕ)) → AllByRecursion (λ x. Differs x (flat_map denied_texts ks)) (map (denied_text k.0) us)
    each [] = tt
    each (u ∷ us) = (cross k.0 u names.0 ks distinct.0 names.1, each us)
