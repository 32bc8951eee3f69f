-- The lines before this one are sent.
use Rattle.std.proofs.Common.{◌≡◌}
use mathlib.Core.List.{IsPrefix}
use Rattle.mt_workers.proofs.QueryLemmas.{IsAtLine}
use Rattle.mt_workers.proofs.query.ask_lines.Given as goal

abbrev pub invariant-loop-line : goal.invariant-loop-line
invariant-loop-line g l = record {
  client : l.pass.client ≡ l.fn.pass.client;
  grows : IsPrefix l.fn.router l.router;
  sent : l.sent ≡ l.line-index;
  way : IsAtLine l.fn.router l.lines l.line-index l.fn.pass.calls.items l.pass.calls.items;
}
