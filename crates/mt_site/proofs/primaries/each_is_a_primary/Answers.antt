-- Those of one place more; a shard that isn't there has a primary as an empty one.
use Rattle.std.proofs.Common.{◌≡◌, ◌<◌, ⊎_elim, arith, get_or, length, subst, sym}
use Rattle.std.proofs.lemmas.Bool.{cases_lt}
use Rattle.mt_primary.specs.Places.{IsAt}
use Rattle.mt_primary.specs.Primary.{IsPrimary, empty_primary}
use Rattle.mt_site.proofs.PrimaryLemmas.{all-of}
use Rattle.mt_site.proofs.primaries.each_is_a_primary.Goals as goal

pub loop-place-preserved : goal.loop-place-preserved
loop-place-preserved c = λ k p within at n below.
    ⊎_elim (λ less. c.loop-place.invariant k p less at n below)
    (λ past.
    let here : p ≡ c.loop-place.place = omega (arith, within, past) in
    let each = c.all.ensures k (subst (IsAt c.args.primaries.now k) here at) in
    subst (λ l. IsPrimary (get_or l n empty_primary)) each (c.each_is_one.ensures n (subst (λ l. n < length l) (sym each) below))) (cases_lt p c.loop-place.place)

pub returns : goal.returns
returns c =
    let all = c.len-place-end.ensures in
    all-of c.args.primaries.now (subst IsPrimary c.new.ensures c.facts-2.ensures)
    (λ k p within at n below. c.loop-place.invariant k p (omega (arith, within, all, c.loop-place-test.false)) at n below)
