-- There are as many ranges as shards.
use Rattle.std.proofs.Common.{ap, length, replicate, ◌∙◌}
use Rattle.std.proofs.lemmas.List.{length-replicate}
use Rattle.mt_names.proofs.ShardLemmas.{count_ranges}
use Rattle.mt_primary.specs.Primary.{empty_primary}
use Rattle.mt_primary.proofs.shards.Shards.new.Goals as goal

pub invariant_of-result : goal.invariant_of-result
invariant_of-result c =
    ap length c.in_ok-each.ensures ∙ length-replicate (length c.as_slice.result.now) empty_primary
    ∙ ap length c.as_slice.ensures.value ∙ count_ranges c.args.list c.as_slice.ensures.cuts

pub returns : goal.returns
returns c =
    let counted = ap length c.as_slice.ensures.value ∙ count_ranges c.args.list c.as_slice.ensures.cuts in
    ap (λ each. record { cuts = c.args.list; each = each }) (c.in_ok-each.ensures ∙ ap (λ n. replicate n empty_primary) counted)
