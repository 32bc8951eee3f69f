-- One primary more.
use Rattle.std.proofs.Common.{◌≡◌, ⊎_elim, ap, arith, get_or, subst, ◌∙◌}
use Rattle.std.proofs.lemmas.Bool.{cases_lt}
use Rattle.std.proofs.lemmas.List.{get_or_default}
use Rattle.mt_primary.specs.Primary.{IsPrimary, empty_primary}
use Rattle.mt_site.proofs.primaries.each_is_one.Goals as goal

pub loop-index-preserved : goal.loop-index-preserved
loop-index-preserved c = λ n within.
    let ps = c.args.primaries.now in
    let i = c.loop-index.index in
    ⊎_elim (λ less. c.loop-index.invariant n less)
    (λ past.
    let here : i ≡ n = omega (arith, within, past) in
    let is = c.index-primaries-index.is ∙ get_or_default ps i c.index-primaries-index.result empty_primary c.loop-index-test.true ∙ ap (λ m. get_or ps m empty_primary) here in
    subst IsPrimary is c.facts.ensures) (cases_lt n i)

pub returns : goal.returns
returns c = λ n within. c.loop-index.invariant n (omega (arith, within, c.loop-index-test.false))
