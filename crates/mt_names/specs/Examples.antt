-- Key ranges and lists of shards as they are read, written and asked, worked by computing.
use Rattle.std.specs.Prelude.{◌≡◌, true, false, [], ◌∷◌, codes, map, Ok, Err}
use Rattle.mt_names.specs.declared.fault.NameFault.TheVariants.{Empty, TooMany, BadRange, NotCovering}
use Rattle.mt_names.specs.Shards.{Bound, KeyRange, bound_value, bytes_of, holds, place_of_range, read_range, read_shards, shard_of, shards_from, shards_text, whole}

-- the range from one bound to another
abbrev pub between : (start end : Bound) → KeyRange
between start end = record { start = start; end = end }

-- a bound stands for eight bytes, with zeros behind those that are written
abbrev pub bounds_are_bytes : Type 0
bounds_are_bytes = (bytes_of (codes "80") ≡ 128 ∷ 0 ∷ 0 ∷ 0 ∷ 0 ∷ 0 ∷ 0 ∷ 0 ∷ []) × (bytes_of (codes "8000") ≡ bytes_of (codes "80"))
    × (bytes_of (codes "0000000000000100") ≡ 0 ∷ 0 ∷ 0 ∷ 0 ∷ 0 ∷ 0 ∷ 1 ∷ 0 ∷ [])
    × (map bound_value (codes "80" ∷ codes "8000" ∷ codes "00" ∷ codes "0000000000000100" ∷ codes "ffffffffffffffff" ∷ [])
    ≡ 9223372036854775808 ∷ 9223372036854775808 ∷ 0 ∷ 256 ∷ 18446744073709551615 ∷ [])

abbrev pub ranges_are_read : Type 0
ranges_are_read = (read_range (codes "-") ≡ Ok whole) × (read_range (codes "40-80") ≡ Ok (between (codes "40") (codes "80")))
    × (read_range (codes "8000-") ≡ Ok (between (codes "8000") [])) × (read_range (codes "00-80") ≡ Ok (between (codes "00") (codes "80")))
    × (read_range (codes "fffffffffffffffe-ffffffffffffffff") ≡ Ok (between (codes "fffffffffffffffe") (codes "ffffffffffffffff")))

-- no range, or one whose start isn't below its end: `80` and `8000` are one place
abbrev pub no_ranges : Type 0
no_ranges = map read_range (codes "" ∷ codes "80" ∷ codes "80-40" ∷ codes "80-80" ∷ codes "80-8000" ∷ codes "-00" ∷ codes "8-" ∷ codes "8G-" ∷ codes "A0-" ∷ codes "40-80-" ∷ codes "001122334455667788-" ∷ [])
    ≡ Err BadRange ∷ Err BadRange ∷ Err BadRange ∷ Err BadRange ∷ Err BadRange ∷ Err BadRange ∷ Err BadRange ∷ Err BadRange ∷ Err BadRange ∷ Err BadRange ∷ Err BadRange ∷ []

-- its start stands in a range, its end doesn't
abbrev pub ranges_hold_keys : Type 0
ranges_hold_keys = (map (holds (between (codes "40") (codes "80"))) (0 ∷ 4611686018427387903 ∷ 4611686018427387904 ∷ 9223372036854775807 ∷ 9223372036854775808 ∷ []) ≡ false ∷ false ∷ true ∷ true ∷ false ∷ [])
    × (map (holds (between [] (codes "0000000000000100"))) (0 ∷ 255 ∷ 256 ∷ []) ≡ true ∷ true ∷ false ∷ [])
    × (map (holds (between (codes "80") [])) (9223372036854775807 ∷ 9223372036854775808 ∷ 18446744073709551615 ∷ []) ≡ false ∷ true ∷ true ∷ [])
    × (map (holds whole) (0 ∷ 18446744073709551615 ∷ []) ≡ true ∷ true ∷ [])

abbrev pub shards_are_read : Type 0
shards_are_read = (read_shards (codes "-") ≡ Ok []) × (read_shards (codes "-80,80-") ≡ Ok (codes "80" ∷ [])) × (read_shards (codes "-40,40-80,80-") ≡ Ok (codes "40" ∷ codes "80" ∷ []))
    × (read_shards (codes "-20,20-40,40-60,60-80,80-a0,a0-c0,c0-e0,e0-") ≡ Ok (codes "20" ∷ codes "40" ∷ codes "60" ∷ codes "80" ∷ codes "a0" ∷ codes "c0" ∷ codes "e0" ∷ []))
    × (shards_text [] ≡ codes "-") × (shards_text (codes "40" ∷ codes "80" ∷ []) ≡ codes "-40,40-80,80-")

-- a text is refused by its first fault, and by what it doesn't cover only behind all others
abbrev pub no_shards : Type 0
no_shards = (read_shards [] ≡ Err Empty)
    × (map read_shards (codes "-80,90-" ∷ codes "-80,8000-" ∷ codes "-,-" ∷ codes "-80" ∷ codes "80-" ∷ codes "80-,-80" ∷ codes "-80,40-" ∷ codes "-80,80-,-" ∷ codes "00-80,80-" ∷ [])
    ≡ Err NotCovering ∷ Err NotCovering ∷ Err NotCovering ∷ Err NotCovering ∷ Err NotCovering ∷ Err NotCovering ∷ Err NotCovering ∷ Err NotCovering ∷ Err NotCovering ∷ [])
    × (map read_shards (codes "," ∷ codes "-80," ∷ codes "-80,90-,80-40" ∷ codes "80-40" ∷ []) ≡ Err BadRange ∷ Err BadRange ∷ Err BadRange ∷ Err BadRange ∷ [])
    × (map read_shards (codes "-10,10-20,20-30,30-40,40-50,50-60,60-70,70-80,80-" ∷ codes "-,-,-,-,-,-,-,-,-" ∷ codes "-,-,-,-,-,-,-,-,-,x" ∷ []) ≡ Err TooMany ∷ Err TooMany ∷ Err TooMany ∷ [])
    × (read_shards (codes "-,-,-,-,-,-,-,-,x") ≡ Err BadRange)

abbrev pub ranges_make_shards : Type 0
ranges_make_shards = (shards_from [] ≡ Err Empty) × (shards_from (whole ∷ []) ≡ Ok []) × (shards_from (between [] (codes "80") ∷ between (codes "80") [] ∷ []) ≡ Ok (codes "80" ∷ []))
    × (shards_from (between [] (codes "80") ∷ between (codes "8000") [] ∷ []) ≡ Err NotCovering) × (shards_from (whole ∷ whole ∷ whole ∷ whole ∷ whole ∷ whole ∷ whole ∷ whole ∷ whole ∷ []) ≡ Err TooMany)

-- keys by their shards, and ranges by their texts: of two ranges that hold the same keys one may stand in a list, and the other not
abbrev pub shards_are_found : Type 0
shards_are_found = (map (shard_of (codes "40" ∷ codes "80" ∷ [])) (0 ∷ 4611686018427387903 ∷ 4611686018427387904 ∷ 9223372036854775807 ∷ 9223372036854775808 ∷ []) ≡ 0 ∷ 0 ∷ 1 ∷ 1 ∷ 2 ∷ [])
    × (map (shard_of (codes "0000000000000100" ∷ [])) (255 ∷ 256 ∷ []) ≡ 0 ∷ 1 ∷ [])
    × (map (place_of_range (codes "40" ∷ codes "80" ∷ [])) (between [] (codes "40") ∷ between (codes "40") (codes "80") ∷ between (codes "80") [] ∷ []) ≡ 0 ∷ 1 ∷ 2 ∷ [])
    × (map (place_of_range (codes "80" ∷ [])) (between (codes "8000") [] ∷ whole ∷ []) ≡ 2 ∷ 2 ∷ [])
