-- A row that is written leaves the topology, and so what is kept; it is written where the name leads.
use Rattle.std.proofs.Common.{◌≡◌, ◌∙◌, Ok, Err, ap, refl, rules, subst, sym}
use Rattle.mt_event.specs.Reasons.{done_by}
use Rattle.mt_model.specs.Topology.{resolution}
use Rattle.mt_names.specs.declared.types.TabletType.TheVariants.{Primary}
use Rattle.mt_plain.specs.Events.{write}
use Rattle.mt_plain.specs.Serve.{served}
use Rattle.mt_stands.specs.Ways.{CoreSteps}
use Rattle.mt_run.specs.Names.{LeadThere}
use Rattle.mt_run.proofs.ThroughLemmas.{alone_steps, at_target, nowhere}
use Rattle.mt_run.proofs.cached.CachedSite.write_through.Goals as goal

pub returns-clause-told : goal.returns-clause-told
returns-clause-told g c = λ scopes p stands.
    let old = c.args.self.now.site.core in
    let new = c.write_row.new.self in
    at_target (new ≡ old) (λ target told. CoreSteps scopes old (write target.keyspace target.table c.args.op) (done_by told) new) (resolution (served p) c.args.name.now Primary) c.place_of-place.result.target
    c.write_row.result (sym (c.in_ok-target.ensures.served p scopes stands) ∙ ap Ok (sym c.place_of-place.ensures)) (alone_steps old new (write c.place_of-place.result.target.keyspace c.place_of-place.result.target.table c.args.op) (done_by c.write_row.result) c.write_row.ensures.applied scopes)

pub returns-in_err-target-clause-told : goal.returns-in_err-target-clause-told
returns-in_err-target-clause-told g c = λ scopes p stands.
    let old = c.args.self.now.site.core in
    let f = c.in_err-target.field-0.0 in
    let answered : c.from_residual.result ≡ Err f = search rules in
    rw answered (nowhere (old ≡ old) (λ target told. CoreSteps scopes old (write target.keyspace target.table c.args.op) (done_by told) old) (resolution (served p) c.args.name.now Primary) f
    (sym (c.in_err-target.ensures.served p scopes stands)) refl)

pub invariant_of-self : goal.invariant_of-self
invariant_of-self g c = record {
  lead = subst (λ t. LeadThere t c.args.self.now.names.kept.entries) (sym c.write_row.ensures.topology) c.args.self.now.lead;
  purged = (c.write_row.ensures.applied (g.W.Asks.scopes c.args.self.now.site.watchers)).purged c.args.self.now.purged;
}
