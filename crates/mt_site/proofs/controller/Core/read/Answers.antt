-- The read leads from each state that the controller stands for to the same, and of a run that goes on with it the headline holds.
use Rattle.std.proofs.Common.{◌≡◌, refl, subst}
use Rattle.mt_plain.specs.Events.{read}
use Rattle.mt_stands.specs.ByHand.{ReadsRow, read_at}
use Rattle.mt_primary.specs.Primaries.{shards_at}
use Rattle.mt_stands.specs.Ways.{CoreSteps}
use Rattle.mt_site.specs.Applied.{unasked}
use Rattle.mt_site.specs.ByHand.{read_from}
use Rattle.mt_site.proofs.AppliedLemmas.{applied_by}
use Rattle.mt_site.proofs.SiteLemmas.{joined}
use Rattle.mt_site.proofs.controller.Core.read.Goals as goal

pub returns : goal.returns
returns c = λ scopes.
    let old = c.args.self.now in
    let keyspace = c.args.keyspace.now in
    let table = c.args.table.now in
    let event = read keyspace table c.args.key c.args.tablet_type in
    let told = read_from c.read_row.result in
    let does : ReadsRow old.base keyspace table c.args.key c.args.tablet_type told old.base
    = (subst (λ s. told ≡ read_at (shards_at s.base.primaries keyspace) table c.args.key c.args.tablet_type) c.self.view_is c.read_row.ensures, refl) in
    applied_by scopes unasked old event told old c.every_run_keeps_the_headline.ensures.with_earlier_lines
    (old, (does, refl), refl)
    (subst (λ s. CoreSteps scopes old event told s) (joined old old refl) (c.events_by_hand_step_and_leave_the_ways.ensures.read scopes old old.base keyspace table c.args.key c.args.tablet_type told does))
    (λ is. refl)
    (λ can. absurd can)
    (λ was. was)
