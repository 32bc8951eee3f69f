-- What is told is what the workflow is, which has a forward stream in each lane.
use Rattle.std.proofs.Common.{◌≡◌, option_map, subst}
use Rattle.mt_event.specs.Events.{lent_shown}
use Rattle.mt_stands.specs.Base.{workflow_at}
use Rattle.mt_stands.specs.Ways.{CoreState}
use Rattle.mt_stands.specs.Workflows.{shown_by}
use Rattle.mt_site.proofs.SiteLemmas.{site}
use Rattle.mt_site.proofs.controller.Core.shown.Goals as goal

pub show-requires : goal.show-requires
show-requires c =
    let old : CoreState = site c.self.inside.topology c.self.inside.primaries c.self.inside.workflows.entries c.self.inside.opened.entries c.self.inside.journal c.self.inside.begun in
    λ w found shard within. c.streams_of_a_base_lie_in_their_logs.ensures.forward old.base (c.a_core_stays_one.ensures.base old c.self.invariant) c.args.workflow.now w shard found within

pub returns : goal.returns
returns c = subst (λ s. option_map lent_shown c.show.result ≡ option_map shown_by (workflow_at s.base.workflows c.args.workflow.now)) c.self.view_is c.show.ensures
