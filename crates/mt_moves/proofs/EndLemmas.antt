-- Lists of keys and of tables that are written one by one.
use Rattle.std.proofs.Common.{◌≡◌, ◌≢◌, ℕ, zero, suc, false, true, fold, List, [], ◌∷◌, ◌++◌, map, take, slice_get, slice_index_or, Some, All, refl, sym, ap, subst, ◌∙◌}
use Rattle.std.proofs.lemmas.List.Elements.{All-cons, All-head, All-nil, All-tail}
use Rattle.std.proofs.lemmas.List.Sums.{fold-append}
use Rattle.mt_names.proofs.EntryLemmas.{apart}
use Rattle.mt_names.proofs.SameLemmas.{same_text_decides}
use Rattle.mt_names.specs.Names.{same_text}
use Rattle.mt_model.specs.declared.entries.Entry.{Entry}
use Rattle.mt_model.specs.declared.entries.Entry.TheVariants as entry
use Rattle.mt_model.specs.declared.entries.EntryKey.{EntryKey}
use Rattle.mt_model.specs.declared.entries.EntryKey.TheVariants as about
use Rattle.mt_model.specs.Part.{with_entries, without_place, without_places}
use Rattle.mt_model.specs.Topology.{TopologyState, has_place, with_entry}
use Rattle.mt_plain.specs.Plain.{Live}
use Rattle.mt_stands.specs.Keys.{end_entries, end_entry, end_keys, keys_of_part}

-- one item more of a list
map_next : {X Y : Type 0} (f : X → Y) (xs : List X) (i : ℕ) (x : X) → Some x ≡ slice_get xs i → map f (take i xs) ++ f x ∷ [] ≡ map f (take (suc i) xs)
map_next f [] i x is = absurd cc
map_next f (y ∷ ys) zero x is = let same : y ≡ x = cc in rw same refl
map_next f (y ∷ ys) (suc i) x is = ap (λ l. f y ∷ l) (map_next f ys i x is)

-- one entry more is written
pub written_more : (f : EntryKey → Entry) (keys : List EntryKey) (t u v : TopologyState) (i : ℕ) (key : EntryKey) (e : Entry) → Some key ≡ slice_get keys i
    → u ≡ with_entries t (map f (take i keys)) → e ≡ f key → v ≡ with_entry u e → v ≡ with_entries t (map f (take (suc i) keys))
written_more f keys t u v i key e at before entry now =
    now ∙ ap (with_entry u) entry ∙ ap (λ s. with_entry s (f key)) before
    ∙ sym (fold-append with_entry t (map f (take i keys)) (f key ∷ []))
    ∙ ap (with_entries t) (map_next f keys i key at)

-- the tables that are written absent, one after the other
absent-all : (source target : List ℕ) → same_text target source ≡ false → (tables : List (List ℕ)) (t : TopologyState)
    → fold (λ u table. with_entry u (entry.Present source table false)) t tables ≡ with_entries t (map (end_entry target) (map (about.Present source) tables))
absent-all source target differ [] t = refl
absent-all source target differ (table ∷ tables) t =
    absent-all source target differ tables (with_entry t (entry.Present source table false))
    ∙ ap (λ mark. with_entries (with_entry t (entry.Present source table mark)) (map (end_entry target) (map (about.Present source) tables))) (sym differ)

-- and those whose places are dropped
released-all : (source : List ℕ) (tables : List (List ℕ)) (t : TopologyState)
    → fold (λ u table. without_place u (about.Present source table)) t tables ≡ without_places t (map (about.Present source) tables)
released-all source [] t = refl
released-all source (table ∷ tables) t = released-all source tables (without_place t (about.Present source table))

map-append : {X Y : Type 0} (f : X → Y) (xs ys : List X) → map f (xs ++ ys) ≡ map f xs ++ map f ys
map-append f [] ys = refl
map-append f (x ∷ xs) ys = ap (λ l. f x ∷ l) (map-append f xs ys)

-- what is written over the part, then over the tables at the source, and what is dropped then, is the end of the workflow
pub end-is : (w : Live) (t a b c d : TopologyState) → w.source ≢ w.target → a ≡ with_entries t (map (end_entry w.target) (keys_of_part w))
    → b ≡ fold (λ u table. with_entry u (entry.Present w.source table false)) a w.tables → c ≡ without_places b (keys_of_part w)
    → d ≡ fold (λ u table. without_place u (about.Present w.source table)) c w.tables
    → d ≡ without_places (with_entries t (end_entries w)) (end_keys w)
end-is w t a b c d differ part absent places tables =
    let differ' : same_text w.target w.source ≡ false = apart same_text same_text_decides w.target w.source (λ e. differ (sym e)) in
    let written : b ≡ with_entries t (end_entries w) =
    absent ∙ absent-all w.source w.target differ' w.tables a ∙ ap (λ s. with_entries s (map (end_entry w.target) (map (about.Present w.source) w.tables))) part
    ∙ sym (fold-append with_entry t (map (end_entry w.target) (keys_of_part w)) (map (end_entry w.target) (map (about.Present w.source) w.tables)))
    ∙ ap (with_entries t) (sym (map-append (end_entry w.target) (keys_of_part w) (map (about.Present w.source) w.tables))) in
    tables ∙ released-all w.source w.tables c ∙ ap (λ s. without_places s (map (about.Present w.source) w.tables)) (places ∙ ap (λ s. without_places s (keys_of_part w)) written)
    ∙ sym (fold-append without_place (with_entries t (end_entries w)) (keys_of_part w) (map (about.Present w.source) w.tables))

-- what holds of each of two lists' items holds of the second's
all-after : {X : Type 0} (P : X → Type 0) (xs ys : List X) → All P (xs ++ ys) → All P ys
all-after P [] ys all = all
all-after P (x ∷ xs) ys all = all-after P xs ys (All-tail P x (xs ++ ys) all)

all-from_map : {X Y : Type 0} (P : Y → Type 0) (f : X → Y) (xs : List X) → All P (map f xs) → All (λ x. P (f x)) xs
all-from_map P f [] all = All-nil (λ x. P (f x))
all-from_map P f (x ∷ xs) all = All-cons (λ y. P (f y)) x xs (All-head P (f x) (map f xs) all) (all-from_map P f xs (All-tail P (f x) (map f xs) all))

-- the tables at the source have places, which stay
pub tables-there : (w : Live) (t a : TopologyState) (source : List ℕ) (tables : List (List ℕ)) → source ≡ w.source → tables ≡ w.tables
    → ((k : EntryKey) → has_place a k ≡ has_place t k) → All (λ key. has_place t key ≡ true) (end_keys w)
    → All (λ table. has_place a (about.Present source table) ≡ true) tables
tables-there w t a source tables from named stay places =
    let there : All (λ table. has_place t (about.Present w.source table) ≡ true) w.tables =
    all-from_map (λ key. has_place t key ≡ true) (about.Present w.source) w.tables
    (all-after (λ key. has_place t key ≡ true) (keys_of_part w) (map (about.Present w.source) w.tables) places) in
    let later : All (λ table. has_place a (about.Present w.source table) ≡ true) w.tables =
    λ i d inside. stay (about.Present w.source (slice_index_or w.tables i d)) ∙ there i d inside in
    subst (λ s. All (λ table. has_place a (about.Present s table) ≡ true) tables) (sym from)
    (subst (λ ts. All (λ table. has_place a (about.Present w.source table) ≡ true) ts) (sym named) later)
