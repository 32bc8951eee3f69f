-- No text of a denied table stands twice, so that to put each once is to sort them.
use Rattle.std.proofs.Common.{◌≡◌, ℕ, if◌then◌else◌, Bool, true, false, List, [], ◌∷◌, map, flat_map, refl, sym, ap, ◌∙◌}
use Rattle.std.proofs.lemmas.Cmp.{nat_list_eq_equiv}
use Rattle.std.proofs.lemmas.List.Elements.{recursion_from_All}
use Rattle.std.specs.List.{AllByRecursion, IsDistinct, fold}
use Rattle.std.specs.Map.{keys_of}
use Rattle.mt_names.specs.Names.{IsKeyspaceName, same_text}
use Rattle.mt_model.specs.Topology.{HasDistinctPlaces, Keyspaces, TopologyState}
use Rattle.mt_model.specs.Documents.{comes_before, put_by_text}
use Rattle.mt_rules.proofs.PutLemmas.{none_apart}
use Rattle.mt_keyspace.specs.Values.{IsNamedKeyspace, by_name, by_themselves}
use Rattle.mt_topology.specs.Values.{IsNamedTopology}
use Rattle.mt_model.specs.Documents.{denied_sorted, denied_texts, sorted_texts}
use Rattle.mt_keyspace.specs.Written.{denied_in_order, put_once}
use Rattle.mt_keyspace.proofs.GatherLemmas.{all-put_once}
use Rattle.mt_keyspace.proofs.DifferLemmas.{Differs, texts_differ}
use Rattle.mt_keyspace.proofs.SortLemmas.{themselves}

-- ---- where texts differ, to put each once is to sort them

put_once-apart : (xs : List (List ℕ)) (x : List ℕ) → Differs x xs → by_themselves (put_once xs x) ≡ put_by_text (by_themselves xs) (x, x)
put_once-apart [] x other = refl
put_once-apart (y ∷ ys) x other = by (put_once-apart ys x other.1) (comes_before x y) refl
  where
    by : by_themselves (put_once ys x) ≡ put_by_text (by_themselves ys) (x, x) → (b : Bool) → comes_before x y ≡ b → by_themselves (put_once (y ∷ ys) x) ≡ put_by_text (by_themselves (y ∷ ys)) (x, x)
    by again true b = rw b refl
    by again false b = rw (b, other.0) (ap (λ l. (y, y) ∷ l) again)

stays : (x : List ℕ) (found left : List (List ℕ)) → Differs x left → AllByRecursion (λ z. Differs z found) left → AllByRecursion (λ z. Differs z (put_once found x)) left
stays x found [] other all = tt
stays x found (z ∷ left) other all = (all-put_once (λ y. same_text z y ≡ false) found x (nat_list_eq_equiv.symm z x ∙ other.0) all.0, stays x found left other.1 all.1)

fold-once : (found left : List (List ℕ)) → AllByRecursion (λ z. Differs z found) left → IsDistinct same_text left
    → by_themselves (fold put_once found left) ≡ fold put_by_text (by_themselves found) (by_themselves left)
unfolding IsDistinct
fold-once found [] all distinct = refl
fold-once found (x ∷ left) all distinct =
    fold-once (put_once found x) left (stays x found left distinct.0 all.1) distinct.1 ∙ ap (λ l. fold put_by_text l (by_themselves left)) (put_once-apart found x all.0)

once-sorted : (xs : List (List ℕ)) → IsDistinct same_text xs → fold put_once [] xs ≡ sorted_texts xs
once-sorted xs distinct = sym (themselves (fold put_once [] xs)) ∙ ap (map (λ x. x.1)) (fold-once [] xs (none_apart (λ z y. same_text z y ≡ false) xs) distinct)

-- ---- what holds of the sorted holds of all

out-put : {A : Type 0} (P : A → Type 0) (xs : List (List ℕ × A)) (x : List ℕ × A) → AllByRecursion (λ y. P y.1) (put_by_text xs x) → P x.1 × AllByRecursion (λ y. P y.1) xs
out-put P [] x all = (all.0, tt)
out-put {A} P (y ∷ ys) x all = by (λ h. out-put P ys x h) (comes_before x.0 y.0) all
  where
    by : (AllByRecursion (λ z. P z.1) (put_by_text ys x) → P x.1 × AllByRecursion (λ z. P z.1) ys) → (b : Bool) → AllByRecursion (λ z. P z.1) (if b then x ∷ y ∷ ys else (y ∷ put_by_text ys x))
        → P x.1 × AllByRecursion (λ z. P z.1) (y ∷ ys)
    by later true h = (h.0, h.1)
    by later false h = let inside = later h.1 in (inside.0, (h.0, inside.1))

pub of_pairs : {A : Type 0} (P : A → Type 0) (xs : List (List ℕ × A)) → AllByRecursion P (map (λ x. x.1) xs) → AllByRecursion (λ x. P x.1) xs
of_pairs P [] all = tt
of_pairs P (x ∷ xs) all = (all.0, of_pairs P xs all.1)

pub unsorted : {A : Type 0} (P : A → Type 0) (found left : List (List ℕ × A)) → AllByRecursion (λ x. P x.1) (fold put_by_text found left) → AllByRecursion (λ x. P x.1) found × AllByRecursion (λ x. P x.1) left
unsorted P found [] all = (all, tt)
unsorted P found (x ∷ left) all =
    let rest = unsorted P (put_by_text found x) left all in
    let first = out-put P found x rest.0 in (first.1, (first.0, rest.1))

pub names_of : (ks : Keyspaces) → AllByRecursion (λ x. IsNamedKeyspace x.1) (by_name ks) → AllByRecursion (λ k. IsKeyspaceName k.0) ks
names_of [] all = tt
names_of (k ∷ ks) all = (all.0.name, names_of ks all.1)

pub denied_once : (t : TopologyState) → HasDistinctPlaces t → IsNamedTopology t → denied_in_order t ≡ denied_sorted t
denied_once t distinct named =
    let names = names_of t.keyspaces (unsorted IsNamedKeyspace [] (by_name t.keyspaces) (of_pairs IsNamedKeyspace (fold put_by_text [] (by_name t.keyspaces)) named.keyspaces)).1 in
    once-sorted (flat_map denied_texts t.keyspaces) (texts_differ t.keyspaces distinct.keyspaces (recursion_from_All (λ k. IsDistinct same_text (keys_of k.1.denied)) t.keyspaces distinct.denied) names)
