-- A name that is kept is one, and leads where it is kept that it leads.
use Rattle.std.proofs.Common.{◌≡◌, ◌∙◌, subst, sym}
use Rattle.mt_event.specs.Reasons.{done_by}
use Rattle.mt_model.specs.Topology.{resolution}
use Rattle.mt_names.specs.declared.types.TabletType.TheVariants.{Primary}
use Rattle.mt_plain.specs.Events.{write}
use Rattle.mt_plain.specs.Serve.{served}
use Rattle.mt_site.proofs.SiteLemmas.{stands_base}
use Rattle.mt_stands.specs.Ways.{CoreSteps}
use Rattle.mt_run.specs.Names.{LeadThere, plain_key}
use Rattle.mt_run.proofs.NameLemmas.{is_read}
use Rattle.mt_run.proofs.ThroughLemmas.{alone_steps, at_target}
use Rattle.mt_run.proofs.cached.CachedSite.write_named.Goals as goal

pub returns-in-Some-clause-name : goal.returns-in-Some-clause-name
returns-in-Some-clause-name g c = is_read c.args.name.now (c.in-Some.ensures c.args.self.now.site.core.base.topology c.args.self.now.lead).is_name

pub returns-in-Some-clause-told : goal.returns-in-Some-clause-told
returns-in-Some-clause-told g c = λ scopes p stands.
    let old = c.args.self.now.site.core in
    let new = c.write_row.new.self in
    let key = plain_key c.args.name.now in
    let serves = c.a_base_tells_what_its_state_serves.ensures.look_up p old.base (stands_base p scopes old stands) key Primary in
    let leads = (c.in-Some.ensures old.base.topology c.args.self.now.lead).leads in
    at_target (new ≡ old) (λ target told. CoreSteps scopes old (write target.keyspace target.table c.args.op) (done_by told) new) (resolution (served p) key Primary) c.in-Some.place.now.target c.write_row.result
    (sym serves ∙ leads) (alone_steps old new (write c.in-Some.place.now.target.keyspace c.in-Some.place.now.target.table c.args.op) (done_by c.write_row.result) c.write_row.ensures.applied scopes)

pub invariant_of-self : goal.invariant_of-self
invariant_of-self g c = record {
  lead = subst (λ t. LeadThere t c.args.self.now.names.kept.entries) (sym c.write_row.ensures.topology) c.args.self.now.lead;
  purged = (c.write_row.ensures.applied (g.W.Asks.scopes c.args.self.now.site.watchers)).purged c.args.self.now.purged;
}
