-- The document is that of the state.
use Rattle.std.proofs.Common.{string_bytes, subst, sym}
use Rattle.mt_model.specs.Documents.{dump_text}
use Rattle.mt_plain.specs.Serve.{served}
use Rattle.mt_stands.specs.Ways.{CoreStands, CoreState}
use Rattle.mt_site.proofs.SiteLemmas.{site, stands_base, text_served}
use Rattle.mt_site.proofs.controller.Core.dump.Goals as goal

pub returns-clause-served : goal.returns-clause-served
returns-clause-served c = λ p scopes stands.
    let old : CoreState = site c.self.inside.topology c.self.inside.primaries c.self.inside.workflows.entries c.self.inside.opened.entries c.self.inside.journal c.self.inside.begun in
    let here : CoreStands p scopes old = subst (λ s. CoreStands p scopes s) (sym c.self.view_is) stands in
    text_served string_bytes c.dump.result (dump_text old.base.topology) (dump_text (served p))
    (c.a_base_tells_what_its_state_serves.ensures.dump p old.base (c.a_core_stays_one.ensures.base old c.self.invariant) (stands_base p scopes old here)) c.dump.ensures.text
