-- The scopes so far are those of the keyspaces so far.
use Rattle.std.proofs.Common.{◌≡◌, take}
use Rattle.mt_plain.specs.Output.{watchers_of}
use Rattle.mt_run.proofs.tellers.Tellers.of.Given as goal

abbrev pub invariant-loop-keyspace : goal.invariant-loop-keyspace
invariant-loop-keyspace l = l.scopes.items ≡ watchers_of (take l.keyspace-index l.keyspaces)
