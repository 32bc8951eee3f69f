-- The places are cut before the one behind, so that each of the two stands in a part of its own.
use Rattle.std.proofs.Common.{◌<◌, arith, refl}
use Rattle.mt_primary.proofs.PlaceLemmas.{get-high, get-low, set-high_low, set-low_high}
use Rattle.mt_primary.proofs.two.two_of.Goals as goal

pub returns-then-first-second : goal.returns-then-first-second
returns-then-first-second c =
    let all = c.args.places.now in
    let low = c.split_at_mut-before.result.0.now in
    let high = c.split_at_mut-before.result.1.now in
    let cut = c.split_at_mut-before.ensures.value in
    let long = c.split_at_mut-before.ensures.front_len in (
      ((refl, refl), λ x y. set-low_high all low high c.args.second c.args.first cut long c.if-first-second.true x y),
      record {
        writes_back = tt;
        first = get-low all low high c.args.second c.args.first cut long c.if-first-second.true _ c.index-before-first.is;
        second = get-high all low high c.args.second c.args.first cut long c.if-first-second.true c.requires.second _ c.index-rest-0.is;
      },
    )

pub returns : goal.returns
returns c =
    let all = c.args.places.now in
    let low = c.split_at_mut-before-2.result.0.now in
    let high = c.split_at_mut-before-2.result.1.now in
    let cut = c.split_at_mut-before-2.ensures.value in
    let long = c.split_at_mut-before-2.ensures.front_len in
    let under : c.args.second < c.args.first = omega arith in (
      ((refl, refl), λ x y. set-high_low all low high c.args.first c.args.second cut long under x y),
      record {
        writes_back = tt;
        first = get-high all low high c.args.first c.args.second cut long under c.requires.first _ c.index-rest-0-2.is;
        second = get-low all low high c.args.first c.args.second cut long under _ c.index-before-second.is;
      },
    )
