-- The answer is that of the core, told in a line; unless names lead where they led, none is kept.
use Rattle.std.proofs.Common.{subst, sym}
use Rattle.mt_event.specs.Asks.{event_of_ask}
use Rattle.mt_site.specs.Asks.{answer_of}
use Rattle.mt_run.specs.Names.{LeadThere}
use Rattle.mt_run.proofs.RunLemmas.{answered}
use Rattle.mt_run.proofs.ThroughLemmas.{kept_lead}
use Rattle.mt_run.proofs.asking.ask.Goals as goal

pub returns-clause-answered : goal.returns-clause-answered
returns-clause-answered g c =
    let scopes = g.A.Asks.scopes c.args.cached.now.site.watchers in
    let old = c.args.cached.now.site.core in
    let new = c.apply-told.new.self in
    answered scopes old new (event_of_ask c.args.asked) (answer_of new c.args.asked c.apply-told.result) c.args.waiting.now.items c.put_told.new.waiting.items c.put_told.ensures c.apply-told.ensures.steps

pub invariant_of-cached : goal.invariant_of-cached
invariant_of-cached g c =
    let watchers = c.args.cached.now.site.watchers in
    let new = c.apply-told.new.self in
    record {
      lead = subst (LeadThere new.base.topology) (sym c.keep_if.ensures)
          (kept_lead (g.A.Asks.scopes watchers) (g.A.Asks.may_answer watchers) c.args.cached.now.site.core new c.args.asked (answer_of new c.args.asked c.apply-told.result) c.args.cached.now.names.kept.entries c.apply-told.ensures.applies
          c.args.cached.now.lead c.leaves_names.result c.leaves_names.ensures);
      purged = c.apply-told.ensures.purged c.args.cached.now.purged;
    }
