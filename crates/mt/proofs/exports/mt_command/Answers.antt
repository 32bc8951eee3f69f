-- A line of an open session leaves what it has said; where none is open, nothing is done.
use Rattle.std.proofs.Common.{ap, refl, sym, ◌∙◌}
use Rattle.mt.specs.declared.handle.Handle.{Handle}
use Rattle.mt.specs.declared.status.Status.TheVariants as status
use Rattle.mt.proofs.ExportLemmas.{code_of, wrote}
use Rattle.mt.proofs.exports.mt_command.Goals as goal

pub returns-in-Some-clause-wrote : goal.returns-in-Some-clause-wrote
returns-in-Some-clause-wrote c = λ opened. wrote c.answer-status.new.self c.of.result.held.scopes c.of.result.held.lines c.of.result.held.out c.of.ensures.said

pub returns-in-None-clause-told : goal.returns-in-None-clause-told
returns-in-None-clause-told c = (
  status.Closed,
  code_of status.Closed c.number-in-None.result c.number-in-None.ensures,
  (sym (ap (λ (h : Handle). h.opened) c.replace.ensures.value) ∙ c.in-None.ensures.closed, ap (λ (h : Handle). h.opened) c.replace.ensures.after ∙ c.closed.ensures, refl, refl),
)
