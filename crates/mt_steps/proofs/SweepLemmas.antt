-- Entries recorded and written one after the other.
use Rattle.std.proofs.Common.{◌≡◌, ◌≢◌, ℕ, zero, suc, ◌+◌, ◌<◌, ◌≤◌, Bool, true, false, if◌then◌else◌, List, [], ◌∷◌, ◌++◌, length, map, flat_map, fold, get_or, take, set, append-nil, append_assoc, All, AllPairs, refl, sym, ap, subst, ◌∙◌, arith}
use Rattle.std.proofs.lemmas.List.{flat_map_more, map-append, take_more}
use Rattle.std.proofs.lemmas.List.Elements.{recursion_from_All}
use Rattle.std.proofs.lemmas.List.Sums.{fold-append}
use Rattle.std.specs.List.{AllByRecursion}
use Rattle.mt_names.specs.declared.types.TypeSet.{TypeSet}
use Rattle.mt_model.specs.declared.entries.Entry.{Entry}
use Rattle.mt_model.specs.declared.entries.EntryKey.{EntryKey}
use Rattle.mt_model.specs.Topology.{TopologyState, has_place, key_of, value_of, with_entry}
use Rattle.mt_model.proofs.PlaceLemmas.{has_place-written}
use Rattle.mt_workflow.specs.Workflows.{WorkflowState, wanted}
use Rattle.mt_steps.specs.declared.records.TableRecord.{TableRecord}
use Rattle.mt_steps.specs.Entries.{HavePlaces, is_of_step, recorded, recorded_entry, swept, with_recorded, with_wanted}
use Rattle.mt_steps.specs.Records.{entries_of, table_entries}
use Rattle.mt_steps.proofs.EntryLemmas.{wanted_elsewhere}

-- ---- where no two entries are of the same key, the order doesn't count

Agree : (u t : TopologyState) → List Entry → Type 0
Agree u t entries = AllByRecursion (λ e. value_of u (key_of e) ≡ value_of t (key_of e)) entries

module _ (w : WorkflowState) (types : TypeSet) (n : ℕ) where
  still_agree : (u t : TopologyState) (k : EntryKey) (entries : List Entry) → ((i : ℕ) (d : EntryKey) → i < length (map key_of entries) → k ≢ get_or (map key_of entries) i d)
      → Agree u t entries → Agree (with_wanted w types n u k) t entries
  unfolding Agree
  still_agree u t k [] apart agree = tt
  still_agree u t k (e ∷ entries) apart agree =
      (wanted_elsewhere w types n u k (key_of e) (apart zero k (omega arith)) ∙ agree.0, still_agree u t k entries (λ i d inside. apart (suc i) d (omega (arith, inside))) agree.1)

  one_recorded : (u t : TopologyState) (e : Entry) → value_of u (key_of e) ≡ value_of t (key_of e) → recorded_entry w n u e ≡ recorded_entry w n t e
  one_recorded u t e is = by (is_of_step w n (key_of e))
    where
      by : (b : Bool) → (if b then value_of u (key_of e) else e) ≡ (if b then value_of t (key_of e) else e)
      by true = is
      by false = refl

  swept_agreed : (u t : TopologyState) (entries : List Entry) → AllPairs (λ a b. a ≢ b) (map key_of entries) → Agree u t entries → swept w types n u entries ≡ recorded w n t entries
  unfolding Agree
  swept_agreed u t [] distinct agree = refl
  swept_agreed u t (e ∷ entries) distinct agree =
      ap (λ x. x ∷ swept w types n (with_wanted w types n u (key_of e)) entries) (one_recorded u t e agree.0)
      ∙ ap (λ l. recorded_entry w n t e ∷ l)
      (swept_agreed (with_wanted w types n u (key_of e)) t entries (λ j i d below inside. distinct (suc j) (suc i) d (omega (arith, below)) (omega (arith, inside)))
      (still_agree u t (key_of e) entries (λ i d inside. distinct zero (suc i) d (omega arith) (omega (arith, inside))) agree.1))

  agree_itself : (t : TopologyState) (entries : List Entry) → Agree t t entries
  unfolding Agree
  agree_itself t [] = tt
  agree_itself t (e ∷ entries) = (refl, agree_itself t entries)

  pub swept_is_recorded : (t : TopologyState) (entries : List Entry) → AllPairs (λ a b. a ≢ b) (map key_of entries) → swept w types n t entries ≡ recorded w n t entries
  swept_is_recorded t entries distinct = swept_agreed t t entries distinct (agree_itself t entries)

  -- ---- some entries, and those behind them

  abbrev pub over : TopologyState → List Entry → TopologyState
  over t entries = fold (with_wanted w types n) t (map key_of entries)

  pub over-append : (t : TopologyState) (a b : List Entry) → over t (a ++ b) ≡ over (over t a) b
  over-append t [] b = refl
  over-append t (e ∷ a) b = over-append (with_wanted w types n t (key_of e)) a b

  pub swept-append : (t : TopologyState) (a b : List Entry) → swept w types n t (a ++ b) ≡ swept w types n t a ++ swept w types n (over t a) b
  swept-append t [] b = refl
  swept-append t (e ∷ a) b = ap (λ l. recorded_entry w n t e ∷ l) (swept-append (with_wanted w types n t (key_of e)) a b)

  pub places_over : (t : TopologyState) (ks : List EntryKey) (k : EntryKey) → has_place (fold (with_wanted w types n) t ks) k ≡ has_place t k
  places_over t [] k = refl
  places_over t (x ∷ ks) k = places_over (with_wanted w types n t x) ks k ∙ by (is_of_step w n x)
    where
      by : (b : Bool) → has_place (if b then with_entry t (wanted w types x) else t) k ≡ has_place t k
      by true = has_place-written t (wanted w types x) k
      by false = refl

pub places_back : (w : WorkflowState) (n : ℕ) (t : TopologyState) (entries : List Entry) (k : EntryKey) → has_place (fold (with_recorded w n) t entries) k ≡ has_place t k
places_back w n t [] k = refl
places_back w n t (e ∷ entries) k = places_back w n (with_recorded w n t e) entries k ∙ by (is_of_step w n (key_of e))
  where
    by : (b : Bool) → has_place (if b then with_entry t e else t) k ≡ has_place t k
    by true = has_place-written t e k
    by false = refl

-- ---- places

pub same_places : (t u : TopologyState) (keys : List EntryKey) → ((k : EntryKey) → has_place u k ≡ has_place t k) → HavePlaces t keys → HavePlaces u keys
same_places t u [] same places = tt
same_places t u (key ∷ keys) same places = (same key ∙ places.0, same_places t u keys same places.1)

places_parts : (t : TopologyState) (a b : List Entry) → HavePlaces t (map key_of (a ++ b)) → HavePlaces t (map key_of a) × HavePlaces t (map key_of b)
places_parts t [] b places = (tt, places)
places_parts t (e ∷ a) b places = let rest = places_parts t a b places.1 in ((places.0, rest.0), rest.1)

pub have_places : (t : TopologyState) (keys : List EntryKey) → All (λ key. has_place t key ≡ true) keys → HavePlaces t keys
have_places t keys places = recursion_from_All (λ key. has_place t key ≡ true) keys places

module _ (source target : List ℕ) where
  abbrev te : TableRecord → List Entry
  te r = table_entries source target r

  pub places_at : (t : TopologyState) (records : List TableRecord) (i : ℕ) (d : TableRecord) → i < length records → HavePlaces t (map key_of (entries_of source target records)) → HavePlaces t (map key_of (te (get_or records i d)))
  places_at t [] i d inside places = absurd (omega (arith, inside))
  places_at t (r ∷ records) zero d inside places = (places_parts t (te r) (entries_of source target records) places).0
  places_at t (r ∷ records) (suc i) d inside places = places_at t records i d (omega (arith, inside)) (places_parts t (te r) (entries_of source target records) places).1

  -- ---- a loop that writes

  pub all_written : (w : WorkflowState) (types : TypeSet) (n : ℕ) (t : TopologyState) (records : List TableRecord)
      → fold (λ u r. over w types n u (te r)) t records ≡ over w types n t (entries_of source target records)
  all_written w types n t [] = refl
  all_written w types n t (r ∷ records) = all_written w types n (over w types n t (te r)) records ∙ sym (over-append w types n t (te r) (entries_of source target records))

  pub all_back : (w : WorkflowState) (n : ℕ) (t : TopologyState) (records : List TableRecord)
      → fold (λ u r. fold (with_recorded w n) u (te r)) t records ≡ fold (with_recorded w n) t (entries_of source target records)
  all_back w n t [] = refl
  all_back w n t (r ∷ records) = all_back w n (fold (with_recorded w n) t (te r)) records ∙ sym (fold-append (with_recorded w n) t (te r) (entries_of source target records))

  places_written : (w : WorkflowState) (types : TypeSet) (n : ℕ) (t : TopologyState) (records : List TableRecord) (k : EntryKey)
      → has_place (fold (λ u r. over w types n u (te r)) t records) k ≡ has_place t k
  places_written w types n t [] k = refl
  places_written w types n t (r ∷ records) k = places_written w types n (over w types n t (te r)) records k ∙ places_over w types n t (map key_of (te r)) k

  places_put_back : (w : WorkflowState) (n : ℕ) (t : TopologyState) (records : List TableRecord) (k : EntryKey)
      → has_place (fold (λ u r. fold (with_recorded w n) u (te r)) t records) k ≡ has_place t k
  places_put_back w n t [] k = refl
  places_put_back w n t (r ∷ records) k = places_put_back w n (fold (with_recorded w n) t (te r)) records k ∙ places_back w n t (te r) k

  -- the next record has its places, once those before it are written
  pub places_next : (w : WorkflowState) (types : TypeSet) (n : ℕ) (t u : TopologyState) (records : List TableRecord) (i : ℕ) (r d : TableRecord) → i < length records → r ≡ get_or records i d
      → u ≡ fold (λ v x. over w types n v (te x)) t (take i records) → HavePlaces t (map key_of (entries_of source target records)) → HavePlaces u (map key_of (te r))
  places_next w types n t u records i r d inside is written places =
      same_places t u (map key_of (te r)) (λ k. ap (λ v. has_place v k) written ∙ places_written w types n t (take i records) k)
      (subst (λ x. HavePlaces t (map key_of (te x))) (sym is) (places_at t records i d inside places))

  pub places_next_back : (w : WorkflowState) (n : ℕ) (t u : TopologyState) (records : List TableRecord) (i : ℕ) (r d : TableRecord) → i < length records → r ≡ get_or records i d
      → u ≡ fold (λ v x. fold (with_recorded w n) v (te x)) t (take i records) → HavePlaces t (map key_of (entries_of source target records)) → HavePlaces u (map key_of (te r))
  places_next_back w n t u records i r d inside is written places =
      same_places t u (map key_of (te r)) (λ k. ap (λ v. has_place v k) written ∙ places_put_back w n t (take i records) k)
      (subst (λ x. HavePlaces t (map key_of (te x))) (sym is) (places_at t records i d inside places))

  -- ---- a loop that records

  -- the first of some records are swept
  pub AreSwept : (w : WorkflowState) (types : TypeSet) (n : ℕ) (t : TopologyState) → ℕ → (old now : List TableRecord) → Type 0
  AreSwept w types n t zero old now = now ≡ old
  AreSwept w types n t (suc i) [] now = now ≡ []
  AreSwept w types n t (suc i) (r ∷ old) [] = ⊥
  AreSwept w types n t (suc i) (r ∷ old) (x ∷ now) = (te x ≡ swept w types n t (te r)) × AreSwept w types n (over w types n t (te r)) i old now

  pub none_yet : (w : WorkflowState) (types : TypeSet) (n : ℕ) (t : TopologyState) (records : List TableRecord) → AreSwept w types n t zero records records
  unfolding AreSwept
  none_yet w types n t records = refl

  pub same_next : (w : WorkflowState) (types : TypeSet) (n : ℕ) (t : TopologyState) (i : ℕ) (old now : List TableRecord) (d : TableRecord) → AreSwept w types n t i old now → get_or now i d ≡ get_or old i d
  unfolding AreSwept
  same_next w types n t zero old now d are = ap (λ l. get_or l zero d) are
  same_next w types n t (suc i) [] now d are = ap (λ l. get_or l (suc i) d) are
  same_next w types n t (suc i) (r ∷ old) [] d are = absurd are
  same_next w types n t (suc i) (r ∷ old) (x ∷ now) d are = same_next w types n (over w types n t (te r)) i old now d are.1

  pub sweep_next : (w : WorkflowState) (types : TypeSet) (n : ℕ) (t : TopologyState) (i : ℕ) (old now : List TableRecord) (d x : TableRecord) → i < length old → AreSwept w types n t i old now
      → te x ≡ swept w types n (fold (λ v r. over w types n v (te r)) t (take i old)) (te (get_or old i d)) → AreSwept w types n t (suc i) old (set now i x)
  unfolding AreSwept
  sweep_next w types n t i [] now d x inside are is = absurd (omega (arith, inside))
  sweep_next w types n t zero (r ∷ old) now d x inside are is = subst (λ l. AreSwept w types n t (suc zero) (r ∷ old) (set l zero x)) (sym are) (is, refl)
  sweep_next w types n t (suc i) (r ∷ old) [] d x inside are is = absurd are
  sweep_next w types n t (suc i) (r ∷ old) (y ∷ now) d x inside are is = (are.0, sweep_next w types n (over w types n t (te r)) i old now d x (omega (arith, inside)) are.1 is)

  pub all_swept : (w : WorkflowState) (types : TypeSet) (n : ℕ) (t : TopologyState) (i : ℕ) (old now : List TableRecord) → length old ≤ i → AreSwept w types n t i old now
      → entries_of source target now ≡ swept w types n t (entries_of source target old)
  unfolding AreSwept
  all_swept w types n t zero [] now within are = ap (entries_of source target) are
  all_swept w types n t zero (r ∷ old) now within are = absurd (omega (arith, within))
  all_swept w types n t (suc i) [] now within are = ap (entries_of source target) are
  all_swept w types n t (suc i) (r ∷ old) [] within are = absurd are
  all_swept w types n t (suc i) (r ∷ old) (x ∷ now) within are =
      ap (λ l. l ++ entries_of source target now) are.0 ∙ ap (λ l. swept w types n t (te r) ++ l) (all_swept w types n (over w types n t (te r)) i old now (omega (arith, within)) are.1)
      ∙ sym (swept-append w types n t (te r) (entries_of source target old))

  -- ---- records that are pushed

  pub pushed : (records : List TableRecord) (r : TableRecord) → entries_of source target (records ++ r ∷ []) ≡ entries_of source target records ++ te r
  pushed [] r = append-nil (te r)
  pushed (x ∷ records) r = ap (λ l. te x ++ l) (pushed records r) ∙ sym (append_assoc (te x) (entries_of source target records) (te r))

-- one record more
pub written_more : (f : TopologyState → TableRecord → TopologyState) (t u : TopologyState) (records : List TableRecord) (i : ℕ) (d : TableRecord) → i < length records
    → u ≡ fold f t (take i records) → f u (get_or records i d) ≡ fold f t (take (i + 1) records)
written_more f t u records i d inside written =
    ap (λ v. f v (get_or records i d)) written ∙ sym (fold-append f t (take i records) (get_or records i d ∷ [])) ∙ ap (fold f t) (sym (take_more records i d inside))

-- one table more of the part
pub table_next : (f : EntryKey → Entry) (keys : List ℕ → List EntryKey) (tables : List (List ℕ)) (i : ℕ) (table : List ℕ) → i < length tables → table ≡ get_or tables i table
    → map f (flat_map keys (take i tables)) ++ map f (keys table) ≡ map f (flat_map keys (take (i + 1) tables))
table_next f keys tables i table inside is =
    sym (map-append f (flat_map keys (take i tables)) (keys table)) ∙ ap (map f) (flat_map_more keys [] (take i tables) table)
    ∙ ap (λ x. map f (flat_map keys (take i tables ++ x ∷ []))) is ∙ ap (λ ts. map f (flat_map keys ts)) (sym (take_more tables i table inside))
