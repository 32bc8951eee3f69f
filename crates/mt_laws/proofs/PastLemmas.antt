-- Lists of entries, and what an advance writes: entries of its workflow's tables, at the side that its stream writes.
use Rattle.std.proofs.Common.{◌≡◌, ℕ, suc, ◌+◌, Bool, true, false, not, cond, List, [], ◌∷◌, ◌++◌, drop, filter, map, Some, refl, sym, ap, ◌∙◌, arith}
use Rattle.std.proofs.lemmas.Bool.{and_parts}
use Rattle.std.proofs.lemmas.List.{drop_all}
use Rattle.std.proofs.lemmas.List.Sums.{sum_by-append}
use Rattle.std.specs.List.{AllByRecursion, count_by}
use Rattle.std.specs.Prelude.{zero, ◌&&◌}
use Rattle.mt_model.specs.declared.rows.Op.{Op}
use Rattle.mt_model.specs.Rows.{op_key}
use Rattle.mt_plain.specs.Answers.{Answers}
use Rattle.mt_plain.specs.Events.{Event, write, advance, StreamName, done}
use Rattle.mt_plain.specs.Plain.{Lane, Live, LogEntry, Plain, in_lane, is_side, live_at, moves}
use Rattle.mt_plain.specs.Slots.{applies, entry_of_row, keys_of_rows, logged, to_copy, uncopied, written_shard, written_side}
use Rattle.mt_plain.specs.Writes.{in_range, is_applied}
use Rattle.mt_laws.proofs.EntryValueLemmas.{in_moved}
use Rattle.mt_laws.proofs.ListLemmas.{append-all, each-mapped, flat_map-all, map-all}
use Rattle.mt_laws.proofs.LiveLemmas.{all_from_in}

-- whether an entry is of one of its tables
abbrev pub of_moved : Live → LogEntry → Bool
of_moved w e = moves w e.table

-- ---- lists

pub count_append : {X : Type 0} (test : X → Bool) (xs ys : List X) → count_by test (xs ++ ys) ≡ count_by test xs + count_by test ys
count_append test xs ys = sum_by-append (λ x. cond (test x) 1 0) xs ys

pub filter_none : {X : Type 0} (test : X → Bool) (xs : List X) → AllByRecursion (λ x. test x ≡ false) xs → filter test xs ≡ []
filter_none test [] all = refl
filter_none test (x ∷ xs) all = rw all.0 (filter_none test xs all.1)

pub all_filter : {X : Type 0} (P : X → Type 0) (test : X → Bool) (xs : List X) → ((x : X) → test x ≡ true → P x) → AllByRecursion P (filter test xs)
all_filter P test [] each = tt
all_filter P test (x ∷ xs) each = by (test x) refl (all_filter P test xs each)
  where
    by : (b : Bool) → test x ≡ b → AllByRecursion P (filter test xs) → AllByRecursion P (cond b (x ∷ filter test xs) (filter test xs))
    by true b all = (each x b, all)
    by false b all = all

pub drop_twice : {X : Type 0} (n m : ℕ) (xs : List X) → drop m (drop n xs) ≡ drop (n + m) xs
drop_twice zero m xs = let e : 0 + m ≡ m = omega arith in ap (λ k. drop k xs) (sym e)
drop_twice {X} (suc n) m [] = drop_all {X = X} m [] (omega arith) ∙ sym (drop_all {X = X} (suc n + m) [] (omega arith))
drop_twice (suc n) m (x ∷ xs) = drop_twice n m xs ∙ (let e : suc (n + m) ≡ suc n + m = omega arith in ap (λ k. drop k (x ∷ xs)) e)

-- ---- what an advance writes

-- it is of the tables of its workflow
pub all_of_moved : (u : Live) (lane : Lane) (name : StreamName) (entries : List LogEntry) (rows : List (List ℕ × ℕ)) → AllByRecursion (λ r. moves u r.0 ≡ true) rows → AllByRecursion (λ e. moves u e.table ≡ true) (logged u lane name entries rows)
all_of_moved u lane name entries rows all =
    append-all (λ e. moves u e.table ≡ true) (map (λ e. written (e.table, e.key)) (filter (applies u lane) entries)) (map written rows)
    (map-all (λ e. moves u e.table ≡ true) (λ e. moves u e.table ≡ true) (λ e. written (e.table, e.key)) (filter (applies u lane) entries) (λ e is. is)
    (all_filter (λ e. moves u e.table ≡ true) (applies u lane) entries (λ e is. (and_parts (moves u e.table) (in_range u.tables lane.copied e.table e.key) (and_parts (in_lane u lane e.key) (is_applied u.tables lane.copied e.table e.key) is).1).0)))
    (map-all (λ r. moves u r.0 ≡ true) (λ e. moves u e.table ≡ true) written rows (λ r is. is) all)
  where
    written : List ℕ × ℕ → LogEntry
    written = entry_of_row (written_side u name) (written_shard lane name)

all_uncopied : (p : Plain) (u : Live) (lane : Lane) → AllByRecursion (λ r. moves u r.0 ≡ true) (uncopied p u lane)
all_uncopied p u lane =
    flat_map-all (λ t. moves u t ≡ true) (λ r. moves u r.0 ≡ true)
    (λ table. map (λ key. (table, key)) (filter (λ key. in_lane u lane key && not (in_range u.tables lane.copied table key)) (keys_of_rows p u table))) u.tables
    (λ table moved. each-mapped (λ r. moves u r.0 ≡ true) (λ key. (table, key)) (filter (λ key. in_lane u lane key && not (in_range u.tables lane.copied table key)) (keys_of_rows p u table)) (λ key. moved))
    (all_from_in (λ t. moves u t ≡ true) u.tables (λ t is. in_moved u t is))

pub all_to_copy : (p : Plain) (u : Live) (lane : Lane) (entries : List LogEntry) → AllByRecursion (λ r. moves u r.0 ≡ true) (to_copy p u lane entries)
all_to_copy p u lane [] = all_uncopied p u lane
all_to_copy p u lane (e ∷ es) = tt

-- and at the side that its stream writes
pub all_at_side : (u : Live) (lane : Lane) (name : StreamName) (entries : List LogEntry) (rows : List (List ℕ × ℕ)) → AllByRecursion (λ e. e.keyspace ≡ written_side u name) (logged u lane name entries rows)
all_at_side u lane name entries rows =
    append-all (λ e. e.keyspace ≡ written_side u name) (map (λ e. written (e.table, e.key)) (filter (applies u lane) entries)) (map written rows)
    (each-mapped (λ e. e.keyspace ≡ written_side u name) (λ e. written (e.table, e.key)) (filter (applies u lane) entries) (λ e. refl))
    (each-mapped (λ e. e.keyspace ≡ written_side u name) written rows (λ r. refl))
  where
    written : List ℕ × ℕ → LogEntry
    written = entry_of_row (written_side u name) (written_shard lane name)

pub all_map : {X : Type 0} (P Q : X → Type 0) (xs : List X) → ((x : X) → P x → Q x) → AllByRecursion P xs → AllByRecursion Q xs
all_map P Q [] each all = tt
all_map P Q (x ∷ xs) each all = (each x all.0, all_map P Q xs each all.1)

-- ---- an event of another workflow, or of none

-- each write to one of its tables is acknowledged at a keyspace
abbrev pub IsWrittenAt : Plain → Live → (keyspace : List ℕ) → Type 0
IsWrittenAt p w keyspace = (k t : List ℕ) (op : Op) → Answers p (write k t op) done → moves w t ≡ true → is_side w k ≡ true → k ≡ keyspace

-- the same of those with a key in the shard of a lane
abbrev pub IsLaneWrittenAt : Plain → Live → Lane → (keyspace : List ℕ) → Type 0
IsLaneWrittenAt p w lane keyspace = (k t : List ℕ) (op : Op) → Answers p (write k t op) done → in_lane w lane (op_key op) ≡ true → moves w t ≡ true → is_side w k ≡ true → k ≡ keyspace

-- an event is no advance of a workflow with one of its tables
abbrev pub IsOther : Plain → Live → Event → Type 0
IsOther p w event = (workflow : List ℕ) (name : StreamName) (shard position at_most : ℕ) → event ≡ advance workflow name shard position at_most → (u : Live) → live_at p workflow ≡ Some u → (table : List ℕ) → moves u table ≡ true → moves w table ≡ false
