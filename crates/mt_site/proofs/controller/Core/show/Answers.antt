-- The state stays that for which the controller stands, and of a run that goes on with it the headline holds.
use Rattle.std.proofs.Common.{◌≡◌, None, Some, Option, false, is_some, option_copied, refl, rules, sym, ap, subst, ◌∙◌}
use Rattle.std.proofs.lemmas.Bool.{true≢false}
use Rattle.mt_plain.specs.Events.{no_workflow, refused, show}
use Rattle.mt_stands.specs.Base.{workflow_at}
use Rattle.mt_stands.specs.Ways.{CoreSteps}
use Rattle.mt_stands.specs.Workflows.{ShowsWorkflow, show_at}
use Rattle.mt_site.specs.Applied.{unasked}
use Rattle.mt_site.proofs.AppliedLemmas.{applied_by}
use Rattle.mt_site.proofs.SiteLemmas.{joined}
use Rattle.mt_site.proofs.controller.Core.show.Goals as goal

absent : {A : Type 0} (o : Option A) → is_some o ≡ false → o ≡ None
absent None e = refl
absent (Some x) e = absurd (true≢false e)

pub returns-then-is_none : goal.returns-then-is_none
returns-then-is_none c = λ scopes.
    let old = c.args.self.now in
    let name = c.args.workflow.now in
    let found = workflow_at old.base.workflows name in
    let none : found ≡ None = sym c.workflow.ensures ∙ absent (option_copied c.workflow.result) (search (c.if-is_none.true, rules)) in
    let told : show_at found ≡ refused no_workflow = ap show_at none in
    let does : ShowsWorkflow old.base name (refused no_workflow) old.base = (sym told, refl) in
    applied_by scopes unasked old (show name) (refused no_workflow) old c.every_run_keeps_the_headline.ensures.with_earlier_lines
    (old, (does, refl), refl)
    (subst (λ s. CoreSteps scopes old (show name) (refused no_workflow) s) (joined old old refl) (c.events_on_workflows_step_and_leave_the_ways.ensures.show scopes old old.base name (refused no_workflow) does))
    (λ is. refl)
    (λ can. absurd can)
    (λ was. was)

pub returns : goal.returns
returns c = λ scopes.
    let old = c.args.self.now in
    let name = c.args.workflow.now in
    let answer = show_at (workflow_at old.base.workflows name) in
    let does : ShowsWorkflow old.base name answer old.base = (refl, refl) in
    applied_by scopes unasked old (show name) answer old c.every_run_keeps_the_headline.ensures.with_earlier_lines
    (old, (does, refl), refl)
    (subst (λ s. CoreSteps scopes old (show name) answer s) (joined old old refl) (c.events_on_workflows_step_and_leave_the_ways.ensures.show scopes old old.base name answer does))
    (λ is. refl)
    (λ can. absurd can)
    (λ was. was)
