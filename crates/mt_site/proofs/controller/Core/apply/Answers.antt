-- A row is written or read as by its own call, and so is what is asked of a workflow.
use Rattle.std.proofs.Common.{subst}
use Rattle.mt_event.specs.Reasons.{done_by}
use Rattle.mt_plain.specs.Events.{done, read, write}
use Rattle.mt_site.specs.Applied.{Applied}
use Rattle.mt_site.specs.Asks.{shown_on}
use Rattle.mt_site.specs.ByHand.{read_from}
use Rattle.mt_site.proofs.AppliedLemmas.{with_watchers}
use Rattle.mt_site.proofs.controller.Core.apply.Goals as goal

pub returns-in-Write : goal.returns-in-Write
returns-in-Write g c =
    let scopes = g.W.Asks.scopes c.args.watchers.now in
    let may_answer = g.W.Asks.may_answer c.args.watchers.now in
    let old = c.args.self.now in
    let new = c.write.new.self in
    let asked = c.in-Write in
    let told = done_by c.write.result in
    let applied = c.write.ensures.applied scopes in
    rw (c.in-Write.is, c.refused_by.ensures done, c.done.ensures done)
    (subst (λ op. Applied scopes may_answer old (write asked.keyspace.now asked.table.now op) told new) c.copied.ensures
    (with_watchers scopes may_answer old (write asked.keyspace.now asked.table.now c.copied.result) told new applied.applies applied))

pub returns-in-Read : goal.returns-in-Read
returns-in-Read g c =
    let scopes = g.W.Asks.scopes c.args.watchers.now in
    let may_answer = g.W.Asks.may_answer c.args.watchers.now in
    let old = c.args.self.now in
    let asked = c.in-Read in
    let applied = c.read.ensures scopes in
    rw (c.in-Read.is, c.refused_by-in-Read.ensures done, c.row.ensures done)
    (with_watchers scopes may_answer old (read asked.keyspace.now asked.table.now asked.key asked.type_of) (read_from c.read.result) old applied.applies applied)

pub returns-in-On : goal.returns-in-On
returns-in-On g c =
    rw (c.in-On.is, c.refused_by-in-On.ensures (shown_on c.apply_on.new.self c.in-On.workflow.now c.in-On.verb)) c.apply_on.ensures
