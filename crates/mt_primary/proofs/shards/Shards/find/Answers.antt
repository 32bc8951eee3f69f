-- Where there is one range, there are no bounds between ranges.
use Rattle.std.proofs.Common.{◌≡◌, [], length, ap, arith, sym, ◌∙◌}
use Rattle.std.proofs.lemmas.List.{nil_from_length}
use Rattle.mt_names.proofs.RangeLemmas.{ranges-long}
use Rattle.mt_names.specs.Shards.{shard_of}
use Rattle.mt_primary.specs.Primaries.{place_of_key}
use Rattle.mt_primary.proofs.shards.Shards.find.Goals as goal

pub returns-then-as_slice-eq1-clause-place : goal.returns-then-as_slice-eq1-clause-place
returns-then-as_slice-eq1-clause-place c =
    let cuts = c.self.inside.list in
    let long = ranges-long [] cuts in
    let same = ap length c.as_slice.ensures.value in
    let none : length cuts ≡ 0 = omega (arith, long, same, c.if-as_slice-eq1.true) in
    ap (λ l. shard_of l c.args.key) (sym (nil_from_length cuts none)) ∙ ap (λ s. place_of_key s c.args.key) c.self.view_is
