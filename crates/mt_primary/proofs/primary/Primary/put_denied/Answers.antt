-- Each mark is put.
use Rattle.std.proofs.Common.{[], None, refl, subst, ◌∙◌}
use Rattle.std.proofs.lemmas.List.{take_all}
use Rattle.mt_primary.specs.Denials.{AreDenialsSet, told_by_mark, told_by_marks}
use Rattle.mt_primary.proofs.DenialLemmas.{denials-put, denials-same}
use Rattle.mt_primary.proofs.primary.Primary.put_denied.Goals as goal

pub loop-mark-init : goal.loop-mark-init
loop-mark-init c = denials-same c.args.self.now (told_by_marks []) (λ name. refl)

pub loop-mark-preserved : goal.loop-mark-preserved
loop-mark-preserved c =
    denials-put c.args.self.now c.loop-mark.self c.set_denied.new.self c.deref-mark-items.result.now c.loop-mark.mark-index c.mark-item.result c.loop-mark-test.true c.mark-item.is c.loop-mark.invariant
    (subst (λ mark. AreDenialsSet c.loop-mark.self (λ name. told_by_mark name None (mark.0, mark.1)) c.set_denied.new.self) c.mark.view_is c.set_denied.ensures)

pub returns : goal.returns
returns c =
    subst (λ marks. AreDenialsSet c.args.self.now (told_by_marks marks) c.loop-mark.self)
    (take_all c.loop-mark.mark-index c.deref-mark-items.result.now c.loop-mark-test.false ∙ c.deref-mark-items.ensures.0 ∙ c.before-2.view_is) c.loop-mark.invariant
