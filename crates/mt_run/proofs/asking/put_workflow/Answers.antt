-- What is told is what is lent of the workflow that is there.
use Rattle.std.proofs.Common.{◌≡◌, ◌++◌, ◌∙◌, Option, None, Some, ap, sym}
use Rattle.std.specs.Option.{option_map}
use Rattle.mt_event.specs.Events.{lent_shown}
use Rattle.mt_plain.specs.Events.{Shown, shown}
use Rattle.mt_plain.specs.Output.{answer_text, line_feed}
use Rattle.mt_stands.specs.Base.{workflow_at}
use Rattle.mt_stands.specs.Workflows.{show_at, shown_by}
use Rattle.mt_workflow.specs.Workflows.{WorkflowState}
use Rattle.mt_run.proofs.asking.put_workflow.Goals as goal

told : (found : Option WorkflowState) (s : Shown) → Some s ≡ option_map shown_by found → show_at found ≡ shown s
told None s is = absurd cc
told (Some w) s is = let same : s ≡ shown_by w = cc in ap shown (sym same)

pub returns-in-Some : goal.returns-in-Some
returns-in-Some g c =
    c.put_shown.ensures
    ∙ ap (λ a. c.args.waiting.now.items ++ answer_text a ++ line_feed) (sym (told (workflow_at c.args.core.now.base.workflows c.args.workflow.now) (lent_shown c.in-Some.shown) c.in-Some.ensures))
