use Rattle.std.proofs.Common.{refl, sym, ◌∙◌}
use Rattle.mt_plain.specs.Answers.{Answers}
use Rattle.mt_plain.specs.Events.{create, done}
use Rattle.mt_plain.specs.Next.{created}
use Rattle.mt_plain.specs.Plain.{cuts_of, each_once}
use Rattle.mt_plain.specs.Slots.{log_length}
use Rattle.mt_workflow.specs.Workflows.{live_of}
use Rattle.mt_stands.specs.Keys.{created_live, rules_only}
use Rattle.mt_stands.specs.Workflows.{new_of}
use Rattle.mt_refinement.proofs.AskedLemmas.{same_change}
use Rattle.mt_refinement.proofs.create_refusals.the_watchers_are_asked_with_what_create_makes.Goals as goal

pub returns : goal.returns
returns c = λ p scopes base stands workflow source target tables none.
    let given : Answers p (create workflow source target tables) done = (sym (c.a_create_is_refused_as_the_definitions_refuse_it.ensures p scopes base stands workflow source target tables) ∙ none, refl) in
    let w = new_of base workflow source target (each_once tables) in
    same_change (rules_only w.kept) p.topology (live_of w) (created workflow source target (each_once tables) (cuts_of p target) (log_length p source 0)) refl refl refl
    (c.create_writes_the_part.ensures.kept p base.topology workflow source target tables (created_live p workflow source target (each_once tables)) stands.reached given
    (c.create_writes_the_part.ensures.live p workflow source target tables given) stands.topology)
