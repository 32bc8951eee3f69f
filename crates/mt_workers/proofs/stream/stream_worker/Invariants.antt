-- The calls so far are the advances that were due, and the next one in each shard is due at this position.
use Rattle.std.proofs.Common.{◌≡◌, length}
use Rattle.mt_names.specs.Shards.{most_shards}
use Rattle.mt_workers.proofs.AdvanceLemmas.{IsUnderWay}
use Rattle.mt_workers.proofs.stream.stream_worker.Given as goal

abbrev pub invariant-loop-line : goal.invariant-loop-line
invariant-loop-line g l = record {
  client : l.pass.client ≡ l.fn.pass.client;
  long : length l.positions ≡ most_shards;
  way : IsUnderWay l.workflow l.stream l.shards l.max l.line l.fn.pass.calls.items l.pass.calls.items l.positions l.taken;
}
