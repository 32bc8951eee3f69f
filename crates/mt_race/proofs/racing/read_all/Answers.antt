-- It asked for all rows.
use Rattle.std.proofs.Common.{◌∙◌, subst}
use Rattle.mt_race.specs.Agreements.{AreAsked}
use Rattle.mt_race.proofs.racing.read_all.Goals as goal

pub returns-in-Some : goal.returns-in-Some
returns-in-Some g c = subst (λ lines. AreAsked lines c.in-Some.pass.calls.items) (c.as_slice.ensures.value ∙ c.in_ok-lines.ensures) c.in-Some.ensures
