-- Lanes of which each is changed in turn, and lists of which each element is written in turn.
use Rattle.std.proofs.Common.{◌≡◌, ℕ, zero, suc, ◌+◌, ◌<◌, ◌≤◌, Bool, true, false, ◌&&◌, List, [], ◌∷◌, ◌++◌, get_or, length, map, set, take, drop, replicate, slice_get, Option, Some, option_and_then, option_map, refl, sym, ap, ◌∙◌, arith}
use Rattle.std.proofs.lemmas.List.FromFn.{get_or-range_with_len, length-range_with_len}
use Rattle.std.proofs.lemmas.List.Folds.{list_all_at, list_all_more}
use Rattle.std.proofs.lemmas.List.{map-set, take_all}
use Rattle.std.proofs.lemmas.Option.{same_Some, slice_get-get_or}
use Rattle.std.specs.List.{list_all, range_with_len}
use Rattle.mt_names.specs.Shards.{KeyRange}
use Rattle.mt_model.specs.Topology.{Marks}
use Rattle.mt_plain.specs.Events.{StreamName}
use Rattle.mt_stream.specs.Streams.{StreamValue}
use Rattle.mt_workflow.specs.Workflows.{LaneState, change_lane, lane_slot, with_lane_slot}
use Rattle.mt_steps.specs.declared.log.PutAway.{PutAway}
use Rattle.mt_steps.specs.declared.records.TableRecord.{TableRecord}
use Rattle.mt_steps.specs.Records.{entries_of}
use Rattle.mt_steps.specs.Shards.{with_each}
use Rattle.mt_steps.specs.Streams.{lane_made, stopped_stream}
use Rattle.mt_steps.specs.Undo.{UndoState}

-- ---- one lane

-- a stream of the range of its lane
pub of_range : (name : StreamName) (tables : List (List ℕ)) (position : ℕ) (range : KeyRange) (lanes : List LaneState) (shard : ℕ)
    → option_map (λ lane. lane.range) (slice_get lanes shard) ≡ Some range
    → change_lane shard (with_lane_slot name (Some (stopped_stream tables range position))) lanes ≡ change_lane shard (lane_made name tables position) lanes
of_range name tables position range [] shard is = refl
of_range name tables position range (lane ∷ lanes) zero is =
    ap (λ (r : KeyRange). with_lane_slot name (Some (stopped_stream tables r position)) lane ∷ lanes) (sym (same_Some lane.range range is))
of_range name tables position range (lane ∷ lanes) (suc shard) is = ap (λ (l : List LaneState). lane ∷ l) (of_range name tables position range lanes shard is)

pub length-change_lane : (change : LaneState → LaneState) (shard : ℕ) (lanes : List LaneState) → length (change_lane shard change lanes) ≡ length lanes
length-change_lane change shard [] = refl
length-change_lane change zero (lane ∷ lanes) = refl
length-change_lane change (suc shard) (lane ∷ lanes) = ap suc (length-change_lane change shard lanes)

-- ---- each lane with what is listed for it

module _ {A : Type 0} (change : A → LaneState → LaneState) where
  pub length-with_each : (xs : List A) (lanes : List LaneState) → length (with_each change xs lanes) ≡ length lanes
  length-with_each [] lanes = refl
  length-with_each (x ∷ xs) [] = refl
  length-with_each (x ∷ xs) (lane ∷ lanes) = ap suc (length-with_each xs lanes)

  -- one more
  pub with_each_more : (xs : List A) (lanes : List LaneState) (i : ℕ) (d : A) → i < length xs
      → change_lane i (change (get_or xs i d)) (with_each change (take i xs) lanes) ≡ with_each change (take (suc i) xs) lanes
  with_each_more [] lanes i d lt = absurd (omega arith)
  with_each_more (x ∷ xs) [] zero d lt = refl
  with_each_more (x ∷ xs) (lane ∷ lanes) zero d lt = refl
  with_each_more (x ∷ xs) [] (suc i) d lt = refl
  with_each_more (x ∷ xs) (lane ∷ lanes) (suc i) d lt = ap (λ (l : List LaneState). change x lane ∷ l) (with_each_more xs lanes i d (omega arith))

  -- those behind are as they were
  pub with_each_behind : (xs : List A) (lanes : List LaneState) (i : ℕ) → slice_get (with_each change (take i xs) lanes) i ≡ slice_get lanes i
  with_each_behind [] lanes zero = refl
  with_each_behind [] lanes (suc i) = refl
  with_each_behind (x ∷ xs) lanes zero = refl
  with_each_behind (x ∷ xs) [] (suc i) = refl
  with_each_behind (x ∷ xs) (lane ∷ lanes) (suc i) = with_each_behind xs lanes i

  pub slot_behind : (xs : List A) (name : StreamName) (lanes : List LaneState) (i : ℕ) (d : LaneState) → i < length lanes
      → option_and_then (lane_slot name) (slice_get (with_each change (take i xs) lanes) i) ≡ lane_slot name (get_or lanes i d)
  slot_behind xs name lanes i d lt = ap (option_and_then (lane_slot name)) (with_each_behind xs lanes i ∙ slice_get-get_or lanes i d lt)

-- ---- each lane alike

module _ (change : LaneState → LaneState) where
  pub each_more : (lanes : List LaneState) (i : ℕ) → i < length lanes
      → change_lane i change (map change (take i lanes) ++ drop i lanes) ≡ map change (take (suc i) lanes) ++ drop (suc i) lanes
  each_more [] i lt = absurd (omega arith)
  each_more (lane ∷ lanes) zero lt = refl
  each_more (lane ∷ lanes) (suc i) lt = ap (λ (l : List LaneState). change lane ∷ l) (each_more lanes i (omega arith))

-- ---- each element of a list written

module _ {A B : Type 0} (f : A → B) where
  pub written_more : (xs : List A) (ys : List B) (i : ℕ) (d : A) → length ys ≡ length xs → i < length xs
      → set (map f (take i xs) ++ drop i ys) i (f (get_or xs i d)) ≡ map f (take (suc i) xs) ++ drop (suc i) ys
  written_more [] ys i d same lt = absurd (omega arith)
  written_more (x ∷ xs) [] i d same lt = absurd (omega arith)
  written_more (x ∷ xs) (y ∷ ys) zero d same lt = refl
  written_more (x ∷ xs) (y ∷ ys) (suc i) d same lt = ap (λ (l : List B). f x ∷ l) (written_more xs ys i d (omega arith) (omega arith))

  -- those behind are as they were
  pub written_behind : (xs : List A) (ys : List B) (i : ℕ) (d : B) → length ys ≡ length xs → i < length xs
      → get_or (map f (take i xs) ++ drop i ys) i d ≡ get_or ys i d
  written_behind [] ys i d same lt = absurd (omega arith)
  written_behind (x ∷ xs) [] i d same lt = absurd (omega arith)
  written_behind (x ∷ xs) (y ∷ ys) zero d same lt = refl
  written_behind (x ∷ xs) (y ∷ ys) (suc i) d same lt = written_behind xs ys i d (omega arith) (omega arith)

-- what is put aside, of which the stream of one shard changes
module _ (d : PutAway) (s : Option StreamValue) where
  pub slots_set : (kept : List PutAway) (i : ℕ) → map (λ (k : PutAway). k.slot) (set kept i (record { listed = (get_or kept i d).listed; slot = s })) ≡ set (map (λ (k : PutAway). k.slot) kept) i s
  slots_set kept i = map-set (λ (k : PutAway). k.slot) kept i (record { listed = (get_or kept i d).listed; slot = s })

  pub listed_kept : (kept : List PutAway) (i : ℕ) → map (λ (k : PutAway). k.listed) (set kept i (record { listed = (get_or kept i d).listed; slot = s })) ≡ map (λ (k : PutAway). k.listed) kept
  listed_kept [] i = refl
  listed_kept (k ∷ kept) zero = refl
  listed_kept (k ∷ kept) (suc i) = ap (λ (l : List (Option Marks)). k.listed ∷ l) (listed_kept kept i)

-- and that of which an own list does
module _ (d : PutAway) (m : Option Marks) where
  listed_set : (kept : List PutAway) (i : ℕ) → map (λ (k : PutAway). k.listed) (set kept i (record { listed = m; slot = (get_or kept i d).slot })) ≡ set (map (λ (k : PutAway). k.listed) kept) i m
  listed_set kept i = map-set (λ (k : PutAway). k.listed) kept i (record { listed = m; slot = (get_or kept i d).slot })

  slots_kept : (kept : List PutAway) (i : ℕ) → map (λ (k : PutAway). k.slot) (set kept i (record { listed = m; slot = (get_or kept i d).slot })) ≡ map (λ (k : PutAway). k.slot) kept
  slots_kept [] i = refl
  slots_kept (k ∷ kept) zero = refl
  slots_kept (k ∷ kept) (suc i) = ap (λ (l : List (Option StreamValue)). k.slot ∷ l) (slots_kept kept i)

-- what a log stands for
abbrev pub seen : (source target : List ℕ) → List TableRecord → List PutAway → UndoState
seen source target records kept = record {
  entries = entries_of source target records;
  listed = map (λ (k : PutAway). k.listed) kept;
  slots = map (λ (k : PutAway). k.slot) kept;
}

-- once what is listed for a shard is another
pub seen_listed : (source target : List ℕ) (records : List TableRecord) (kept : List PutAway) (d : PutAway) (m : Option Marks) (i : ℕ) → d ≡ get_or kept i d
    → seen source target records (set kept i (record { listed = m; slot = d.slot })) ≡ record (seen source target records kept) { listed = set (map (λ (k : PutAway). k.listed) kept) i m }
seen_listed source target records kept d m i is =
    ap (λ (k : PutAway). seen source target records (set kept i (record { listed = m; slot = k.slot }))) is
    ∙ ap (λ (l : List (Option Marks)). record { entries = entries_of source target records; listed = l; slots = map (λ (k : PutAway). k.slot) (set kept i (record { listed = m; slot = (get_or kept i d).slot })) })
    (listed_set d m kept i)
    ∙ ap (λ (s : List (Option StreamValue)). record { entries = entries_of source target records; listed = set (map (λ (k : PutAway). k.listed) kept) i m; slots = s }) (slots_kept d m kept i)

-- once other streams are put aside
pub seen_away : (source target : List ℕ) (records : List TableRecord) (old now : List PutAway) (slots : List (Option StreamValue))
    → map (λ (k : PutAway). k.slot) now ≡ slots → map (λ (k : PutAway). k.listed) now ≡ map (λ (k : PutAway). k.listed) old
    → seen source target records now ≡ record (seen source target records old) { slots = slots }
seen_away source target records old now slots are stay =
    ap (λ (s : List (Option StreamValue)). record { entries = entries_of source target records; listed = map (λ (k : PutAway). k.listed) now; slots = s }) are
    ∙ ap (λ (l : List (Option Marks)). record { entries = entries_of source target records; listed = l; slots = slots }) stay

-- the same for each of some
pub each_of_same : {A B C : Type 0} (f : A → B) (a : A) (xs : List C) → map f (replicate (length xs) a) ≡ map (λ x. f a) xs
each_of_same f a [] = refl
each_of_same f a (x ∷ xs) = ap (λ l. f a ∷ l) (each_of_same f a xs)

-- ---- a test of each number

module _ (test : ℕ → Bool) (n : ℕ) where
  pub all_more : (i : ℕ) → i < n → list_all test (take i (range_with_len 0 n)) ≡ true → test i ≡ true → list_all test (take (i + 1) (range_with_len 0 n)) ≡ true
  all_more i lt before here =
      list_all_more test (range_with_len 0 n) i 0 (let l = length-range_with_len 0 n in omega arith)
      ∙ ap (λ b. b && test (get_or (range_with_len 0 n) i 0)) before ∙ ap test (get_or-range_with_len 0 n i 0 lt ∙ omega arith) ∙ here

  pub one_fails : (i : ℕ) → i < n → test i ≡ false → list_all test (range_with_len 0 n) ≡ false
  one_fails i lt here =
      list_all_at test (range_with_len 0 n) i 0 (let l = length-range_with_len 0 n in omega arith) (ap test (get_or-range_with_len 0 n i 0 lt ∙ omega arith) ∙ here)

  pub all_tested : (i : ℕ) → n ≤ i → list_all test (take i (range_with_len 0 n)) ≡ true → list_all test (range_with_len 0 n) ≡ true
  all_tested i le before = ap (list_all test) (sym (take_all i (range_with_len 0 n) (let l = length-range_with_len 0 n in omega arith))) ∙ before
