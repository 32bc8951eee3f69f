-- A name that is kept is one, and leads where it is kept that it leads.
use Rattle.std.proofs.Common.{◌∙◌, sym}
use Rattle.std.specs.Prelude.{⊤}
use Rattle.mt_model.specs.Topology.{resolution}
use Rattle.mt_names.specs.declared.types.TabletType.TheVariants.{Primary}
use Rattle.mt_plain.specs.Events.{read}
use Rattle.mt_plain.specs.Serve.{served}
use Rattle.mt_site.proofs.SiteLemmas.{stands_base}
use Rattle.mt_site.specs.ByHand.{read_from}
use Rattle.mt_stands.specs.Ways.{CoreSteps}
use Rattle.mt_run.specs.Names.{plain_key}
use Rattle.mt_run.proofs.NameLemmas.{is_read}
use Rattle.mt_run.proofs.ThroughLemmas.{alone_steps, at_target}
use Rattle.mt_run.proofs.cached.CachedSite.read_named.Goals as goal

pub returns-in-Some-clause-name : goal.returns-in-Some-clause-name
returns-in-Some-clause-name g c = is_read c.args.name.now (c.in-Some.ensures c.args.self.now.site.core.base.topology c.args.self.now.lead).is_name

pub returns-in-Some-clause-told : goal.returns-in-Some-clause-told
returns-in-Some-clause-told g c = λ scopes p stands.
    let core = c.args.self.now.site.core in
    let key = plain_key c.args.name.now in
    let serves = c.a_base_tells_what_its_state_serves.ensures.look_up p core.base (stands_base p scopes core stands) key Primary in
    let leads = (c.in-Some.ensures core.base.topology c.args.self.now.lead).leads in
    at_target ⊤ (λ target told. CoreSteps scopes core (read target.keyspace target.table c.args.key Primary) (read_from told) core) (resolution (served p) key Primary) c.in-Some.place.now.target c.read_row.result
    (sym serves ∙ leads) (alone_steps core core (read c.in-Some.place.now.target.keyspace c.in-Some.place.now.target.table c.args.key Primary) (read_from c.read_row.result) c.read_row.ensures scopes)
