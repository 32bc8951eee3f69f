-- What is written at a side that changes with the step.
use Rattle.std.proofs.Common.{◌≡◌, ◌==◌, true, if◌then◌else◌, List, ℕ, Bool, ap, sym, ◌∙◌}
use Rattle.mt_model.specs.declared.entries.Entry.TheVariants as entry
use Rattle.mt_model.specs.Topology.{with_entry}
use Rattle.mt_plain.specs.Plain.{allow_target, deny_source}
use Rattle.mt_steps.specs.Plans.{number}
use Rattle.mt_steps.specs.Records.{denial_step}
use Rattle.mt_steps.proofs.SideLemmas.{denial_written, denied_at_side}
use Rattle.mt_steps.proofs.entries.exchange_denial.Goals as goal

pub returns-then-is_denial_step-clause-written : goal.returns-then-is_denial_step-clause-written
returns-then-is_denial_step-clause-written c =
    let w = c.args.workflow.now in
    let t = c.args.topology.now in
    let n = number c.args.step in
    let side : List ℕ = if c.args.is_target then w.target else w.source in
    let at : (denial_step w side == n) ≡ true =
    ap (λ (b : Bool). (if b then deny_source else allow_target) == n) (sym c.is_old_owner.ensures) ∙ sym c.is_denial_step.ensures ∙ c.if-is_denial_step.true in
    let is = denied_at_side w c.args.types c.args.is_target c.requires.apart ∙ sym c.is_side_denied.ensures in
    c.exchange_denied.ensures.after ∙ ap (λ s. with_entry t (entry.Denied s c.args.table.now c.is_side_denied.result)) c.side-side.ensures
    ∙ denial_written w c.args.types n t side c.args.table.now c.is_side_denied.result is at
