-- It asked for all rows, and was answered each.
use Rattle.std.proofs.Common.{◌≡◌, ◌∙◌, arith}
use Rattle.std.proofs.lemmas.Grind.{common_steps}
use Rattle.mt_workers.specs.Queries.{Queries}
use Rattle.mt_caller.specs.Moves.{inserts}
use Rattle.mt_caller.proofs.MoveLemmas.{asked_of}
use Rattle.mt_caller.proofs.together.write.Goals as goal

pub invariant_of-result : goal.invariant_of-result
invariant_of-result g c =
    let pass = c.in-Ok-pass.pass in
    let (client, none) = c.in-Ok-pass.ensures.pass in
    let are : c.deref.result.now ≡ inserts 32 = grind (arith, common_steps) in
    let all : c.query_worker.result.1 ≡ 32 = search in
    let (calls, is, asked) = c.query_worker.ensures.queries in
    record {
      client = c.query_worker.ensures.client ∙ client;
      asked = asked_of Queries c.in-Ok.router c.deref.result.now pass.calls.items calls c.query_worker.result.0.calls.items c.query_worker.result.1 are none is all asked;
    }
