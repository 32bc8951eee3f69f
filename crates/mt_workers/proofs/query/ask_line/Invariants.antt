-- Each try so far was denied.
use Rattle.std.proofs.Common.{◌≡◌}
use mathlib.Core.List.{IsPrefix}
use Rattle.mt_workers.proofs.QueryLemmas.{IsDeniedSoFar}
use Rattle.mt_workers.proofs.query.ask_line.Given as goal

abbrev pub invariant-loop-tried : goal.invariant-loop-tried
invariant-loop-tried g l = record {
  client : l.pass.client ≡ l.fn.pass.client;
  grows : IsPrefix l.fn.router l.router;
  denied : IsDeniedSoFar l.fn.router l.line l.fn.pass.calls.items l.pass.calls.items l.tried;
}
