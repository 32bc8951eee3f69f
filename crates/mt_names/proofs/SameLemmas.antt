-- `==` decides equality, for proofs that cite it.
use Rattle.std.proofs.Common.{[], ap, rules, sym, ◌∙◌}
use Rattle.std.proofs.lemmas.Bool.{and_from, and_parts}
use Rattle.std.specs.Cmp.Lexicographic.{bytes_decides, pointwise_decides}
use Rattle.mt_names.specs.Names.{same_text}
use Rattle.mt_names.specs.Same.{DecidesEquality, same_key, same_target, same_type, same_types}
use Rattle.mt_names.specs.Shards.{KeyRange, cuts_between, ranges_of, same_range, same_shards}
use Rattle.mt_names.proofs.ShardLemmas.{cuts_between-ranges_from}

pub same_text_decides : DecidesEquality same_text
same_text_decides = bytes_decides

pub same_key_decides : DecidesEquality same_key
same_key_decides = search rules

pub same_target_decides : DecidesEquality same_target
same_target_decides = search rules

pub same_type_decides : DecidesEquality same_type
same_type_decides = search rules

pub same_types_decides : DecidesEquality same_types
same_types_decides = search rules

pub same_range_decides : DecidesEquality same_range
same_range_decides a b = (
  λ e. let both = and_parts (same_text a.start b.start) (same_text a.end b.end) e in λ i. record { start = (bytes_decides a.start b.start).0 both.0 i; end = (bytes_decides a.end b.end).0 both.1 i },
  λ same. and_from (same_text a.start b.start) (same_text a.end b.end)
      ((bytes_decides a.start b.start).1 (ap (λ (r : KeyRange). r.start) same)) ((bytes_decides a.end b.end).1 (ap (λ (r : KeyRange). r.end) same)),
)

-- the ranges tell the bounds between them
pub same_shards_decides : DecidesEquality same_shards
same_shards_decides a b =
    let lists = pointwise_decides same_range_decides (ranges_of a) (ranges_of b) in (
      λ e. sym (cuts_between-ranges_from [] a) ∙ ap cuts_between (lists.0 e) ∙ cuts_between-ranges_from [] b,
      λ same. lists.1 (ap ranges_of same),
    )
