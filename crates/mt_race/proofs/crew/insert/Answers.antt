-- It asked for all of its rows.
use Rattle.std.proofs.Common.{◌∙◌, subst}
use Rattle.mt_race.specs.Agreements.{AreAsked}
use Rattle.mt_race.proofs.crew.insert.Goals as goal

pub invariant_of-result : goal.invariant_of-result
invariant_of-result g c = record {
  asked = subst (λ lines. AreAsked lines c.in-Some.pass.calls.items) (c.as_slice.ensures.value ∙ c.in-Ok.ensures) c.in-Some.ensures;
}
