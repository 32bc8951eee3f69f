-- Without keyspaces, workflows and ways the controller stands for the opening.
use Rattle.std.proofs.Common.{◌≡◌, rules, subst, sym}
use Rattle.mt_plain.specs.Plain.{opening}
use Rattle.mt_stands.specs.Ways.{CoreStands, empty_core}
use Rattle.mt_site.proofs.SiteLemmas.{site}
use Rattle.mt_site.proofs.controller.Core.new.Goals as goal

pub returns-clause-stands : goal.returns-clause-stands
returns-clause-stands c = λ scopes.
    let same : site c.new.result c.new-2.result c.new-3.result.entries c.new-4.result.entries c.new-5.result 0 ≡ empty_core = search rules in
    subst (λ s. CoreStands (opening scopes) scopes s) (sym same) (c.a_core_stays_one.ensures.stands scopes)
