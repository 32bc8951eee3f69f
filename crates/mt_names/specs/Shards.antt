-- The shards of a keyspace: key ranges that follow one another, as texts and by what they hold ("Sharding": key ranges; the numeric
-- vindex gives a key as eight bytes, the highest first).
use Rattle.std.specs.Prelude.{◌≡◌, ℕ, suc, ◌+◌, ◌-◌, ◌*◌, ◌%◌, ◌≤◌, Bool, true, false, not, ◌&&◌, ◌||◌, ◌==◌, nat_le, nat_lt, if◌then◌else◌, List, [], ◌∷◌, ◌++◌, count_by, length, map, min, Option, None, Some, Result, Ok, Err, slice_index_or}
use Rattle.std.specs.Cmp.{IsEquivalence, and_equiv, on_equiv}
use Rattle.std.specs.Cmp.Lexicographic.{lists_equiv, nat_list_eq_equiv, pointwise, slice_cmp}
use Rattle.std.specs.Int.{from_be_bytes, w64}
use Rattle.std.specs.List.{join_with_byte, list_all, position_or_len, slice_split}
use Rattle.std.specs.Ordering.{is_le, is_lt, nat_cmp}
use Rattle.arrayvec.specs.ArrayVec.{ArrayVec}
use Rattle.mt_names.specs.declared.fault.NameFault.{NameFault}
use Rattle.mt_names.specs.declared.fault.NameFault.TheVariants.{Empty, TooMany, BadRange, NotCovering}
use Rattle.mt_names.specs.Keys.{after, before}
use Rattle.mt_names.specs.Names.{dash, same_text}
use Rattle.mt_names.specs.Results.{◌>>=◌}
use Rattle.mt_names.specs.Types.{comma}

-- the most shards of a keyspace, and the most digits of a bound: eight bytes
abbrev pub most_shards : ℕ
most_shards = 8

abbrev pub longest_bound : ℕ
longest_bound = 16

-- ---- bounds

-- a bound of key ranges as it is written: digits of bytes, the highest first; none is an open end ("Sharding")
abbrev pub Bound : Type 0
Bound = List ℕ

-- whether a range is open at this end
abbrev pub is_open : Bound → Bool
is_open [] = true
is_open (digit ∷ digits) = false

-- `0` to `9` and `a` to `f`
abbrev pub zero_digit : ℕ
zero_digit = 48

abbrev pub is_digit : ℕ → Bool
is_digit byte = nat_le 48 byte && nat_le byte 57 || nat_le 97 byte && nat_le byte 102

-- of which `a` says 10
abbrev pub digit_value : ℕ → ℕ
digit_value byte = if nat_le byte 57 then byte - 48 else byte - 87

-- the digits of whole bytes, at most eight of them
abbrev pub is_bound : Bound → Bool
is_bound digits = list_all is_digit digits && nat_le (length digits) longest_bound && (length digits % 2 == 0)

-- what the digit at a place says; behind them all stand zeros
abbrev pub digit_at : Bound → (place : ℕ) → ℕ
digit_at digits place = digit_value (slice_index_or digits place zero_digit)

-- the byte at a place: two digits
abbrev pub byte_at : Bound → (place : ℕ) → ℕ
byte_at digits place = 16 * digit_at digits (2 * place) + digit_at digits (2 * place + 1)

-- its eight bytes, the highest first: as if it were filled on the right with zero bytes
abbrev pub bytes_of : Bound → List ℕ
bytes_of digits = map (byte_at digits) (0 ∷ 1 ∷ 2 ∷ 3 ∷ 4 ∷ 5 ∷ 6 ∷ 7 ∷ [])

-- the first key at it: the one that has these bytes
abbrev pub bound_value : Bound → ℕ
bound_value digits = from_be_bytes w64 (bytes_of digits)

-- ---- a key range

-- from its start on, up to its end and without it ("Sharding")
pub record KeyRange : Type 0 where
  pub start : Bound
  pub end : Bound

-- the range of an unsharded keyspace
abbrev pub whole : KeyRange
whole = record { start = []; end = [] }

-- how it is written
abbrev pub range_text : KeyRange → List ℕ
range_text range = range.start ++ dash ∷ range.end

-- whether two ranges are written alike
abbrev pub same_range : KeyRange → KeyRange → Bool
same_range a b = same_text a.start b.start && same_text a.end b.end

-- which is an equivalence
pub same_range_equiv : IsEquivalence same_range
same_range_equiv = and_equiv (on_equiv (λ (range : KeyRange). range.start) nat_list_eq_equiv) (on_equiv (λ (range : KeyRange). range.end) nat_list_eq_equiv)

-- whether a key stands in it
abbrev pub holds : KeyRange → ℕ → Bool
holds range key = (is_open range.start || nat_le (bound_value range.start) key) && (is_open range.end || nat_lt key (bound_value range.end))

-- whether a key of these eight bytes does, the highest first: the first byte in which they differ tells which of two keys is below
abbrev pub holds_bytes : KeyRange → List ℕ → Bool
holds_bytes range bytes =
    (is_open range.start || is_le (slice_cmp nat_cmp (bytes_of range.start) bytes)) && (is_open range.end || is_lt (slice_cmp nat_cmp bytes (bytes_of range.end)))

-- its bounds are written as they should, and its start is below its end
abbrev pub is_range : KeyRange → Bool
is_range range =
    is_bound range.start && is_bound range.end && (is_open range.end || nat_lt (bound_value range.start) (bound_value range.end))

-- the range between two bounds, if there are two and they make one
abbrev pub range_from : (start : Bound) → Option Bound → Result KeyRange NameFault
range_from start None = Err BadRange
range_from start (Some end) = if is_range (record { start = start; end = end }) then Ok (record { start = start; end = end }) else Err BadRange

-- the range that a text is
abbrev pub read_range : List ℕ → Result KeyRange NameFault
read_range text = range_from (before dash text) (after dash text)

-- the text of some range
abbrev pub IsRangeText : List ℕ → Type 0
IsRangeText text = (range : KeyRange) × (is_range range ≡ true) × (range_text range ≡ text)

-- ---- the shards of a keyspace

-- the bounds between shards, from the lowest on: none where a keyspace isn't sharded. Every list of them parts all keys
abbrev pub Cuts : Type 0
Cuts = List Bound

-- how many shards they make, eight at most
abbrev pub shard_count : Cuts → ℕ
shard_count cuts = min most_shards (suc (length cuts))

-- the place of the shard in which a key stands: as many bounds are not above the key
abbrev pub shard_of : Cuts → (key : ℕ) → ℕ
shard_of cuts key = min (most_shards - 1) (count_by (λ cut. nat_le (bound_value cut) key) cuts)

-- the ranges of the shards, in their order
abbrev pub ranges_from : (start : Bound) → Cuts → List KeyRange
ranges_from start [] = record { start = start; end = [] } ∷ []
ranges_from start (cut ∷ cuts) = record { start = start; end = cut } ∷ ranges_from cut cuts

abbrev pub ranges_of : Cuts → List KeyRange
ranges_of cuts = ranges_from [] cuts

-- the bounds between ranges, where each but the last ends
abbrev pub cuts_between : List KeyRange → Cuts
cuts_between [] = []
cuts_between (range ∷ []) = []
cuts_between (range ∷ next ∷ ranges) = range.end ∷ cuts_between (next ∷ ranges)

-- what holds of the bounds of every keyspace: they are written as they should, none is open, they ascend, and there are at most seven
abbrev pub ascend_from : ℕ → Cuts → Bool
ascend_from low [] = true
ascend_from low (cut ∷ cuts) = is_bound cut && nat_lt low (bound_value cut) && ascend_from (bound_value cut) cuts

pub record AreCuts (cuts : Cuts) : Type 0 where
  pub ascend : ascend_from 0 cuts ≡ true
  pub few : suc (length cuts) ≤ most_shards

-- whether two keyspaces are sharded alike
abbrev pub same_shards : Cuts → Cuts → Bool
same_shards a b = pointwise same_range (ranges_of a) (ranges_of b)

-- which is one too
pub same_shards_equiv : IsEquivalence same_shards
same_shards_equiv = on_equiv ranges_of (lists_equiv same_range_equiv)

-- ---- as a text

-- the place of a range among shards, by its text; behind them all where it is none of them
abbrev pub place_of_range : Cuts → KeyRange → ℕ
place_of_range cuts range = position_or_len (same_range range) (ranges_of cuts)

-- the texts of the ranges, separated by commas
abbrev pub shards_text : Cuts → List ℕ
shards_text cuts = join_with_byte comma (map range_text (ranges_of cuts))

-- the ranges, with one more if there is room for it
abbrev pub with_range : List KeyRange → KeyRange → Result (List KeyRange) NameFault
with_range ranges range = if length ranges == most_shards then Err TooMany else Ok (ranges ++ range ∷ [])

-- the ranges, with those that words are
abbrev pub read_ranges_after : List KeyRange → List (List ℕ) → Result (List KeyRange) NameFault
read_ranges_after ranges [] = Ok ranges
read_ranges_after ranges (word ∷ words) = read_range word >>= λ range. with_range ranges range >>= λ more. read_ranges_after more words

-- where the range behind one has to start: nowhere behind an open end
abbrev pub end_of : KeyRange → Option Bound
end_of range = if is_open range.end then None else Some range.end

-- the same, of a range that has to start at a bound itself
abbrev pub start_behind : Option Bound → KeyRange → Result (Option Bound) NameFault
start_behind None range = Err NotCovering
start_behind (Some start) range = if same_text range.start start then Ok (end_of range) else Err NotCovering

-- the bounds between ranges of which each but the last ends where the next one starts, and the first start and the last end are open
abbrev pub cuts_behind : (start : Bound) → List KeyRange → Result Cuts NameFault
cuts_behind start [] = Err NotCovering
cuts_behind start (range ∷ ranges) =
    if not (same_text range.start start) then Err NotCovering
    else if is_open range.end then (if length ranges == 0 then Ok [] else Err NotCovering)
    else (cuts_behind range.end ranges >>= λ cuts. Ok (range.end ∷ cuts))

-- shards made of ranges
abbrev pub cuts_of_ranges : List KeyRange → Result Cuts NameFault
cuts_of_ranges [] = Err Empty
cuts_of_ranges (range ∷ ranges) = cuts_behind [] (range ∷ ranges)

-- of which there are at most eight
abbrev pub shards_from : List KeyRange → Result Cuts NameFault
shards_from ranges = if nat_lt most_shards (length ranges) then Err TooMany else cuts_of_ranges ranges

-- the shards that a text names, or its first fault
abbrev pub read_shards : List ℕ → Result Cuts NameFault
read_shards [] = Err Empty
read_shards (byte ∷ bytes) = read_ranges_after [] (slice_split (λ b. b == comma) (byte ∷ bytes)) >>= cuts_of_ranges

-- the text of some shards
abbrev pub IsShardsText : List ℕ → Type 0
IsShardsText text = (cuts : Cuts) × AreCuts cuts × (shards_text cuts ≡ text)

-- the ranges, with the one that a word is
abbrev pub with_word : List KeyRange → List ℕ → Result (List KeyRange) NameFault
with_word ranges word = read_range word >>= with_range ranges

-- that something was taken, or its fault
abbrev pub outcome : {A : Type 0} → Result A NameFault → Result (Unit {0}) NameFault
outcome (Ok x) = Ok tt
outcome (Err fault) = Err fault

-- what a contract sees of the ranges that have been read
abbrev pub items_of : Result (ArrayVec KeyRange) NameFault → Result (List KeyRange) NameFault
items_of (Ok ranges) = Ok ranges.items
items_of (Err fault) = Err fault
