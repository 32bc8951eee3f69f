-- The row is read where the name leads.
use Rattle.std.proofs.Common.{◌≡◌, ◌∙◌, Ok, Err, ap, rules, sym}
use Rattle.std.specs.Prelude.{⊤}
use Rattle.mt_model.specs.Topology.{resolution}
use Rattle.mt_plain.specs.Events.{read}
use Rattle.mt_plain.specs.Serve.{served}
use Rattle.mt_site.specs.ByHand.{read_from}
use Rattle.mt_stands.specs.Ways.{CoreSteps}
use Rattle.mt_run.proofs.ThroughLemmas.{alone_steps, at_target, nowhere}
use Rattle.mt_run.proofs.cached.CachedSite.read_through.Goals as goal

pub returns : goal.returns
returns g c = λ scopes p stands.
    let core = c.args.self.now.site.core in
    let target = c.place_of-place.result.target in
    at_target ⊤ (λ target told. CoreSteps scopes core (read target.keyspace target.table c.args.key c.args.tablet_type) (read_from told) core) (resolution (served p) c.args.name.now c.args.tablet_type) target
    c.read_row.result (sym (c.in_ok-target.ensures.served p scopes stands) ∙ ap Ok (sym c.place_of-place.ensures))
    (alone_steps core core (read target.keyspace target.table c.args.key c.args.tablet_type) (read_from c.read_row.result) c.read_row.ensures scopes)

pub returns-in_err-target : goal.returns-in_err-target
returns-in_err-target g c = λ scopes p stands.
    let core = c.args.self.now.site.core in
    let f = c.in_err-target.field-0.0 in
    let answered : c.from_residual.result ≡ Err f = search rules in
    rw answered (nowhere ⊤ (λ target told. CoreSteps scopes core (read target.keyspace target.table c.args.key c.args.tablet_type) (read_from told) core) (resolution (served p) c.args.name.now c.args.tablet_type) f
    (sym (c.in_err-target.ensures.served p scopes stands)) tt)
